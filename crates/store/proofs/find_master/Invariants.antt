-- `store::find_master` meets its contract. Assumes nothing.
use Prim.Native.Nat.{ℕ, ◌-◌, ◌≤◌, ◌<◌}
use mathlib.Core.Path.{◌≡◌}
use mathlib.Core.Bool.{false}
use Rattle.slot.specs.Blocks.{block}
use Rattle.store.specs.Layout.{identity, master_at, master_words}
use Rattle.store.specs.Search.{named}
use Rattle.store.proofs.find_master.Given as goal

abbrev pub invariant-loop-i : goal.invariant-loop-i
invariant-loop-i l = (l.i ≤ l.count) × ((k : ℕ) → k < l.i → named (identity l.clock l.number) (block l.port (master_at k) master_words) ≡ false)

abbrev pub decreases-loop-i : goal.decreases-loop-i
decreases-loop-i l = l.count - l.i
