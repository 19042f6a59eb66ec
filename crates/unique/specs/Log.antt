-- The calls of the log program.
-- Assumes nothing.
use Rattle.log_line.proofs.log_line.Reads as log-line
use Rattle.log_line.proofs.too_long.Reads as too_long
use Rattle.log_piece.proofs.next_answer.Reads as next-answer
use Rattle.log_piece.proofs.last_answer.Reads as last-answer
use Rattle.unique.specs.Once.{OneAnswerAndExit, alike}

-- the words of the store, and the bytes of the output
pub line_store_lem : OneAnswerAndExit log-line.Learnt (λ κs e. e.0.now)
line_store_lem κs a z z' e e' p q = (alike p.0 q.0, alike p.1.0 q.1.0)

pub line-out : OneAnswerAndExit log-line.Learnt (λ κs e. e.1.1.1.0.now)
line-out κs a z z' e e' p q = (alike p.0 q.0, alike p.1.1 q.1.1)

pub too-long-out : OneAnswerAndExit too_long.Learnt (λ κs e. e.1.0.now)
too-long-out κs a z z' e e' p q = (alike p.0 q.0, alike p.1 q.1)

-- the same, and the bytes that are kept of an unfinished line
pub next_store : OneAnswerAndExit next-answer.Learnt (λ κs e. e.0.now)
next_store κs a z z' e e' p q = (alike p.0 q.0, alike p.1.0 q.1.0)

pub next-out : OneAnswerAndExit next-answer.Learnt (λ κs e. e.1.1.1.1.1.1.0.now)
next-out κs a z z' e e' p q = (alike p.0 q.0, alike p.1.1.0 q.1.1.0)

pub next-kept : OneAnswerAndExit next-answer.Learnt (λ κs e. e.1.1.0.now)
next-kept κs a z z' e e' p q = (alike p.0 q.0, alike p.1.1.1.0 q.1.1.1.0)

pub last_store : OneAnswerAndExit last-answer.Learnt (λ κs e. e.0.now)
last_store κs a z z' e e' p q = (alike p.0 q.0, alike p.1.0 q.1.0)

pub last_out : OneAnswerAndExit last-answer.Learnt (λ κs e. e.1.1.1.1.0.now)
last_out κs a z z' e e' p q = (alike p.0 q.0, alike p.1.1.0 q.1.1.0)
