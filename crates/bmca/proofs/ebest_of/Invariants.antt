-- `bmca::ebest_of` meets its contract. The loop's invariant: the one held is Ebest among the ports so far.
-- Assumes nothing.
use Prim.Native.Nat.{◌≤◌}
use mathlib.Core.Path.{◌≡◌}
use Rattle.history.specs.Rules.{ports_max}
use Rattle.states.specs.Ports.{ebest_of}
use Rattle.recommend.specs.Number.{shown}
use Rattle.book.specs.Below.{tab}
use Rattle.bmca.specs.Decide.{erbest_at}
use Rattle.bmca.proofs.ebest_of.Given as goal

abbrev pub invariant-loop-q : goal.invariant-loop-q
invariant-loop-q l = (l.count ≤ ports_max) × (l.held ≡ shown (ebest_of (tab l.q (erbest_at l.store))))
