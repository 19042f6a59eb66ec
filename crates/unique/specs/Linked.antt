-- The calls that a program in C or Rust links: the number, and every word or byte that was lent to be written.
-- Assumes nothing.
use Rattle.rillarch.proofs.rillarch_store_words.Reads as store_words_lem
use Rattle.rillarch.proofs.rillarch_check.Reads as check
use Rattle.rillarch.proofs.rillarch_fresh_start.Reads as fresh_start
use Rattle.rillarch.proofs.rillarch_register.Reads as register
use Rattle.rillarch.proofs.rillarch_age.Reads as age
use Rattle.rillarch.proofs.rillarch_decide.Reads as decide
use Rattle.rillarch.proofs.rillarch_candidate.Reads as candidate
use Rattle.rillarch.proofs.rillarch_compare.Reads as compare
use Rattle.rillarch.proofs.rillarch_choose.Reads as choose
use Rattle.rillarch.proofs.rillarch_read_frame.Reads as read-frame
use Rattle.rillarch.proofs.rillarch_write_announce.Reads as write-announce
use Rattle.rillarch.proofs.rillarch_tlv_entry.Reads as tlv-entry
use Rattle.unique.specs.Once.{OneAnswer, OneAnswerAndExit, alike}

pub size-told : OneAnswer store_words_lem.Learnt
size-told κs a z z' e e' p q = alike p q

pub checked : OneAnswer check.Learnt
checked κs a z z' e e' p q = alike p q

pub started : OneAnswerAndExit fresh_start.Learnt (λ κs e. e.0.now)
started κs a z z' e e' p q = (alike p.0 q.0, alike p.1 q.1)

pub registered : OneAnswerAndExit register.Learnt (λ κs e. e.1.1.1.0.now)
registered κs a z z' e e' p q = (alike p.0 q.0, alike p.1.1 q.1.1)

pub registered_store : OneAnswerAndExit register.Learnt (λ κs e. e.0.now)
registered_store κs a z z' e e' p q = (alike p.0 q.0, alike p.1.0 q.1.0)

pub aged : OneAnswerAndExit age.Learnt (λ κs e. e.1.1.0.now)
aged κs a z z' e e' p q = (alike p.0 q.0, alike p.1.1 q.1.1)

pub aged-store : OneAnswerAndExit age.Learnt (λ κs e. e.0.now)
aged-store κs a z z' e e' p q = (alike p.0 q.0, alike p.1.0 q.1.0)

pub decided : OneAnswerAndExit decide.Learnt (λ κs e. e.1.1.1.1.1.1.1.0.now)
decided κs a z z' e e' p q = (alike p.0 q.0, alike p.1.1 q.1.1)

pub decided-store : OneAnswerAndExit decide.Learnt (λ κs e. e.0.now)
decided-store κs a z z' e e' p q = (alike p.0 q.0, alike p.1.0 q.1.0)

pub candidate-told : OneAnswerAndExit candidate.Learnt (λ κs e. e.1.1.0.now)
candidate-told κs a z z' e e' p q = (alike p.0 q.0, alike p.1 q.1)

pub compared : OneAnswerAndExit compare.Learnt (λ κs e. e.1.1.0.now)
compared κs a z z' e e' p q = (alike p.0 q.0, alike p.1 q.1)

pub chosen : OneAnswerAndExit choose.Learnt (λ κs e. e.1.0.now)
chosen κs a z z' e e' p q = (alike p.0 q.0, alike p.1 q.1)

pub frame_read : OneAnswerAndExit read-frame.Learnt (λ κs e. e.1.0.now)
frame_read κs a z z' e e' p q = (alike p.0 q.0, alike p.1 q.1)

pub announce-written : OneAnswerAndExit write-announce.Learnt (λ κs e. e.1.1.0.now)
announce-written κs a z z' e e' p q = (alike p.0 q.0, alike p.1 q.1)

pub entry_read : OneAnswerAndExit tlv-entry.Learnt (λ κs e. e.1.1.0.now)
entry_read κs a z z' e e' p q = (alike p.0 q.0, alike p.1 q.1)
