-- `offers::best_at` meets its contract. Assumes nothing.
use mathlib.Core.List.{List}
use Prim.Native.Nat.{ℕ}
use mathlib.Core.Path.{ap, ◌∙◌}
use native.Mathlib.Omega.{arith}
use Rattle.slot.specs.Blocks.{length-block, part-block}
use Rattle.history.specs.Port.{best_of}
use Rattle.book.specs.Layout.{master_words, master_at, reads}
use Rattle.offers.specs.Offers.{newest_of}
use Rattle.offers.proofs.best_at.Goals as goal

pub newest-requires : goal.newest-requires
newest-requires c =
    let a = c.args in
    rw part-block (length-block a.port.now (master_at a.i) master_words (omega (arith, c.requires)), c.requires.2)

pub returns : goal.returns
returns c =
    let a = c.args in
    c.newest.ensures
    ∙ ap (λ (m : List ℕ). best_of reads a.receiver (newest_of m)) (part-block a.port.now (master_at a.i) master_words)
