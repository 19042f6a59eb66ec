-- `bmca::consume` meets its contract. The loop's invariant: the first ports are decided.
-- Assumes nothing.
use Prim.Native.Nat.{◌*◌, ◌≤◌}
use mathlib.Core.Path.{◌≡◌}
use lib.ListN.{length}
use Rattle.history.specs.Rules.{ports_max}
use Rattle.bmca.specs.Decide.{decided_to, gone_to}
use Rattle.bmca.proofs.consume.Given as goal

abbrev pub invariant-loop-q : goal.invariant-loop-q
invariant-loop-q l = (l.count ≤ ports_max)
    × (length l.store ≡ length l.initial.store)
    × (l.gone ≤ 8 * l.q)
    × (l.gone ≡ gone_to l.q l.initial.store)
    × (l.store ≡ decided_to l.q l.initial.store)
