-- `bmca::answers_of` meets its contract. The loop's invariant: the answers so far lie over blank ones.
-- Assumes nothing.
use Prim.Native.Nat.{◌≤◌}
use mathlib.Core.List.{◌++◌}
use mathlib.Core.Path.{◌≡◌}
use lib.ListN.{length, drop}
use Rattle.history.specs.Rules.{ports_max}
use Rattle.book.specs.Below.{tab}
use Rattle.bmca.specs.Decide.{blanks}
use Rattle.bmca.specs.Plan.{answer_in}
use Rattle.bmca.proofs.answers_of.Given as goal

abbrev pub invariant-loop-i : goal.invariant-loop-i
invariant-loop-i l = (l.count ≤ ports_max) × (length l.answers ≡ 8) × (l.answers ≡ tab l.i (answer_in l.store l.own l.plan) ++ drop l.i blanks)
