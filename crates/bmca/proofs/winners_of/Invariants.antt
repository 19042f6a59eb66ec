-- `bmca::winners_of` meets its contract. The loop's invariant: the winners so far lie over eight of 0.
-- Assumes nothing.
use Prim.Native.Nat.{◌≤◌}
use mathlib.Core.List.{◌++◌}
use mathlib.Core.Path.{◌≡◌}
use lib.ListN.{length, drop}
use Rattle.history.specs.Rules.{ports_max}
use Rattle.book.specs.Below.{tab}
use Rattle.bmca.specs.Plan.{zeros, winner_at}
use Rattle.bmca.proofs.winners_of.Given as goal

abbrev pub invariant-loop-q : goal.invariant-loop-q
invariant-loop-q l = (l.count ≤ ports_max) × (length l.winners ≡ 8) × (l.winners ≡ tab l.q (winner_at l.store) ++ drop l.q zeros)
