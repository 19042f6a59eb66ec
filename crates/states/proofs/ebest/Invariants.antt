-- The loop of `ebest`: the choice over the one held and those still to come is the choice over all Erbests.
-- Assumes nothing.
use Rattle.std.proofs.Common.{drop, ◌≡◌}
use Rattle.states.specs.Ports.{ebest_of}
use Rattle.states.proofs.Steps.{keep_all}
use Rattle.states.proofs.ebest.Given as goal

abbrev pub invariant-loop-next : goal.invariant-loop-next
invariant-loop-next l = keep_all l.held (drop l.next-index l.next-items) ≡ ebest_of l.fn.erbests
