-- `log_piece::next_answer` meets its contract, by what the cutting finds. Assumes nothing.
use native.Mathlib.Omega.{arith}
use lib.ListN.{length}
use Rattle.lines.specs.Lines.{next_line}
use Rattle.log_step.proofs.Steps.{next-stands, line_step, long-step, taken_step}
use Rattle.log_piece.proofs.next_answer.Goals as goal

pub kept_line-requires : goal.kept_line-requires
kept_line-requires c =
    let f = c.next_line in
    let w = rw c.in-Line.is at f.ensures.within in
    (omega (arith, w.0, f.auto.buffer), c.requires)

pub returns-in-Line : goal.returns-in-Line
returns-in-Line c =
    let f = c.next_line in
    let a = c.args in
    let p = line_step (length a.buffer.now) (length a.piece.now) a.at f.result f.ensures.within a.setup a.store.now a.out.now f.new.buffer
    (next_line a.buffer.now a.count a.piece.now a.at) (next-stands a.buffer.now a.count a.piece.now a.at) f.ensures.is.0 f.ensures.is.1
    c.in-Line.n c.in-Line.next c.in-Line.is _ _ _ c.kept_line.ensures in
    record { value = p.0; store_after = p.1.0; out_after = p.1.1.0; buffer_after = p.1.1.1.0; within = p.1.1.1.1 }

pub returns-in-TooLong : goal.returns-in-TooLong
returns-in-TooLong c =
    let f = c.next_line in
    let a = c.args in
    let p = long-step (length a.buffer.now) (length a.piece.now) a.at f.result f.ensures.within a.setup a.store.now a.out.now f.new.buffer
    (next_line a.buffer.now a.count a.piece.now a.at) f.ensures.is.0 f.ensures.is.1 c.in-TooLong.next c.in-TooLong.is _ _ c.too_long.ensures in
    record { value = p.0; store_after = p.1.0; out_after = p.1.1.0; buffer_after = p.1.1.1.0; within = p.1.1.1.1 }

pub returns-in-Taken : goal.returns-in-Taken
returns-in-Taken c =
    let f = c.next_line in
    let a = c.args in
    let p = taken_step (length a.buffer.now) (length a.piece.now) a.at f.result f.ensures.within a.setup a.store.now a.out.now f.new.buffer
    (next_line a.buffer.now a.count a.piece.now a.at) f.ensures.is.0 f.ensures.is.1 c.in-Taken.kept c.in-Taken.is in
    record { value = p.0; store_after = p.1.0; out_after = p.1.1.0; buffer_after = p.1.1.1.0; within = p.1.1.1.1 }
