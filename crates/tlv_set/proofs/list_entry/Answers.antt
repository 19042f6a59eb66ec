-- `tlv_set::list_entry` meets its contract: the list is checked, then read by the view.
-- Assumes nothing.
use Rattle.std.proofs.Common.{sym, ◌∙◌}
use Rattle.std.proofs.lemmas.Result.{err_from_is_err_and}
use Rattle.tlv_set.specs.View.{list-refused, list-taken}
use Rattle.tlv_set.proofs.list_entry.Goals as goal

pub returns-in_err-check : goal.returns-in_err-check
returns-in_err-check c =
    let p = err_from_is_err_and c.from_residual.result c.from_residual.ensures.1 in
    rw (p.1, p.2) (list-refused c.args.s.now c.args.at _ (sym c.in_err-check.ensures))

pub returns : goal.returns
returns c = c.view_entry.ensures ∙ list-taken c.args.s.now c.args.at (sym c.in_ok-check.ensures)
