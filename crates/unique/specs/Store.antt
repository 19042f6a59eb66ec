-- The calls over a store.
-- Assumes nothing.
use Rattle.book.proofs.check.Reads as check
use Rattle.foreign_master.proofs.fresh_start.Reads as fresh_start
use Rattle.foreign_master.proofs.register_announce_message.Reads as register-announce-message
use Rattle.foreign_master.proofs.step_age.Reads as step-age
use Rattle.bmca.proofs.decide.Reads as decide
use Rattle.candidates.proofs.candidate.Reads as candidate
use Rattle.unique.specs.Once.{OneAnswer, OneAnswerAndExit, alike, alike-number}

pub checked : OneAnswer check.Learnt
checked κs a z z' e e' p q = alike-number p q

pub started : OneAnswerAndExit fresh_start.Learnt (λ κs e. e.0.now)
started κs a z z' e e' p q = (alike-number p.0 q.0, alike p.1 q.1)

pub registered : OneAnswerAndExit register-announce-message.Learnt (λ κs e. e.0.now)
registered κs a z z' e e' p q = (alike p.0 q.0, alike p.1 q.1)

pub aged : OneAnswerAndExit step-age.Learnt (λ κs e. e.0.now)
aged κs a z z' e e' p q = (alike p.0 q.0, alike p.1 q.1)

pub decided : OneAnswerAndExit decide.Learnt (λ κs e. e.0.now)
decided κs a z z' e e' p q = (alike p.0 q.0, alike p.1 q.1)

pub candidate-told : OneAnswer candidate.Learnt
candidate-told κs a z z' e e' p q = alike p q
