-- `replay_decisions::erbests` is safe: the candidates of each port are within the line. Assumes nothing.
use Rattle.std.proofs.Common.{◌≤◌}
use Rattle.replay_decisions.proofs.erbests.Given as goal

abbrev pub invariant-loop-port : goal.invariant-loop-port
invariant-loop-port l = l.first ≤ l.n
