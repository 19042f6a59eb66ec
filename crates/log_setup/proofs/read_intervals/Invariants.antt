-- `log_setup::read_intervals` meets its contract: the intervals so far stand in front. Assumes nothing.
use mathlib.Core.Path.{◌≡◌}
use lib.ListN.{length, take}
use Rattle.log_setup.specs.Start.{intervals_at}
use Rattle.log_setup.proofs.read_intervals.Given as goal

abbrev pub invariant-loop-i : goal.invariant-loop-i
invariant-loop-i l = (take l.i l.intervals ≡ intervals_at l.line l.i) × (length l.intervals ≡ length l.initial.intervals)
