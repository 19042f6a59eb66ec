-- `rillarch::check_both` meets its contract: the left is refused, or the right decides.
-- Assumes nothing.
use mathlib.Core.Path.{sym, ◌∙◌}
use Rattle.std.proofs.lemmas.Result.{err_from_is_err_and}
use Rattle.rillarch.proofs.Laws.{number-nonzero, compare_left, compare_right}
use Rattle.rillarch.proofs.check_both.Goals as goal

pub returns-in_err-refusal : goal.returns-in_err-refusal
returns-in_err-refusal c =
    let p = err_from_is_err_and c.from_residual.result c.from_residual.ensures.1 in
    let e = c.in_err-refusal.ensures in
    rw (p.1, p.2) (e ∙ compare_left c.args.left.now c.args.right.now (λ z. number-nonzero _ (e ∙ z)))

pub returns : goal.returns
returns c = c.refusal-2.ensures ∙ compare_right c.args.left.now c.args.right.now (sym c.in_ok-refusal.ensures)
