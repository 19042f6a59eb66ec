-- `consumption::consume_port` meets its contract. Assumes nothing.
use Prim.Native.Nat.{◌≤◌}
use mathlib.Core.Path.{◌≡◌}
use Rattle.consumption.specs.Consume.{consumed_below, gone_below}
use Rattle.consumption.proofs.consume_port.Given as goal

abbrev pub invariant-loop-i : goal.invariant-loop-i
invariant-loop-i l = (l.gone ≤ l.i) × (l.port ≡ consumed_below l.winner l.i l.initial.port) × (l.gone ≡ gone_below l.winner l.i l.initial.port)
