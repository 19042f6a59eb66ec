-- `ageing::count_stale` meets its contract. Assumes nothing.
use Rattle.std.proofs.Common.{◌≡◌, ℕ, ◌<◌, false}
use Rattle.history.specs.Port.{young}
use Rattle.book.specs.Layout.{message_at, reads}
use Rattle.ageing.proofs.count_stale.Given as goal

abbrev pub invariant-loop-k : goal.invariant-loop-k
invariant-loop-k l = (j : ℕ) → j < l.k → young reads l.limit (message_at l.master j) ≡ false
