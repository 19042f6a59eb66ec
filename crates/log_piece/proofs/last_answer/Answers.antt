-- `log_piece::last_answer` meets its contract, by what stands open. Assumes nothing.
use mathlib.Core.Path.{sym, ◌∙◌}
use Rattle.log_step.proofs.Steps.{line-rest, long_rest, none_rest}
use Rattle.log_piece.proofs.last_answer.Goals as goal

pub kept_line-requires : goal.kept_line-requires
kept_line-requires c = (rw c.in-Line.is at c.last_line.ensures.within, c.requires)

pub returns-in-Line : goal.returns-in-Line
returns-in-Line c =
    let a = c.args in
    let p = line-rest _ a.buffer.now a.setup a.store.now a.out.now c.in-Line.n (sym c.in-Line.is ∙ c.last_line.ensures.is) _ _ _ c.kept_line.ensures in
    record { value = p.0; store_after = p.1.0; out_after = p.1.1.0; within = p.1.1.1 }

pub returns-in-TooLong : goal.returns-in-TooLong
returns-in-TooLong c =
    let a = c.args in
    let p = long_rest _ a.buffer.now a.setup a.store.now a.out.now (sym c.in-TooLong.is ∙ c.last_line.ensures.is) _ _ c.too_long.ensures in
    record { value = p.0; store_after = p.1.0; out_after = p.1.1.0; within = p.1.1.1 }

pub returns-in-Nothing : goal.returns-in-Nothing
returns-in-Nothing c =
    let a = c.args in
    let p = none_rest _ a.buffer.now a.setup a.store.now a.out.now (sym c.in-Nothing.is ∙ c.last_line.ensures.is) in
    record { value = p.0; store_after = p.1.0; out_after = p.1.1.0; within = p.1.1.1 }
