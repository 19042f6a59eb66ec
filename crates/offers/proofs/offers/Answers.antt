-- `offers::offers` meets its contract. Assumes nothing.
use mathlib.Core.Path.{ap, sym, ◌∙◌}
use native.Mathlib.Omega.{arith}
use Rattle.slot.specs.Blocks.{get_or-block}
use Rattle.book.specs.Layout.{master_words, master_at}
use Rattle.offers.specs.Offers.{qualified}
use Rattle.offers.proofs.offers.Goals as goal

pub returns : goal.returns
returns c =
    let a = c.args in
    c.is_qualified.ensures ∙ ap qualified (sym (get_or-block a.port.now (master_at a.i) master_words 3 (omega arith)))
