-- `bmca::numbers_of` meets its contract. The loop's invariant: the numbers so far lie over eight of 0, and the bits of the ports to come are left.
-- Assumes nothing.
use Prim.Native.Nat.{◌/◌, ◌^◌, ◌≤◌}
use mathlib.Core.List.{◌++◌}
use mathlib.Core.Path.{◌≡◌}
use lib.ListN.{length, drop}
use Rattle.history.specs.Rules.{ports_max}
use Rattle.book.specs.Below.{tab}
use Rattle.bmca.specs.Plan.{zeros, number_at}
use Rattle.bmca.proofs.numbers_of.Given as goal

abbrev pub invariant-loop-q : goal.invariant-loop-q
invariant-loop-q l = (l.count ≤ ports_max)
    × (length l.numbers ≡ 8)
    × (l.bits ≡ l.listening / 2 ^ l.q)
    × (l.numbers ≡ tab l.q (number_at l.store l.own l.listening) ++ drop l.q zeros)
