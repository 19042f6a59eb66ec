-- `candidates::candidate` meets its contract. Assumes nothing.
use mathlib.Core.Path.{sym, ap, ◌∙◌}
use Rattle.std.specs.Prelude.{Ok}
use Rattle.std.proofs.lemmas.Result.{err_from_is_err_and}
use Rattle.book.proofs.Rules.{checked}
use Rattle.candidates.proofs.Steps.{answer-refused, answer-done}
use Rattle.candidates.proofs.candidate.Goals as goal

pub returns-in_err-check : goal.returns-in_err-check
returns-in_err-check c =
    let p = err_from_is_err_and c.from_residual.result c.from_residual.ensures.1 in
    rw (p.1, p.2) (answer-refused c.args.store.now c.args.k _ c.in_err-check.ensures)

pub candidate_in-requires : goal.candidate_in-requires
candidate_in-requires c =
    let s = checked c.args.store.now (sym c.in_ok-check.ensures) in
    (s.room, s.sound)

pub returns : goal.returns
returns c = ap Ok c.candidate_in.ensures ∙ answer-done c.args.store.now c.args.k (sym c.in_ok-check.ensures)
