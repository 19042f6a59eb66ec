-- `candidates::candidate_in` meets its contract. Assumes nothing.
use Prim.Native.Nat.{◌≤◌}
use Rattle.history.specs.Rules.{ports_max}
use Rattle.candidates.proofs.Steps.{Left}
use Rattle.candidates.proofs.candidate_in.Given as goal

abbrev pub invariant-loop-q : goal.invariant-loop-q
invariant-loop-q l = (l.count ≤ ports_max) × Left l.store l.k l.q l.left
