-- `wire::be` meets its contract: after i bytes x is the number of the first i.
-- Assumes nothing.
use Prim.Native.Nat.{◌^◌, ◌<◌}
use mathlib.Core.Path.{◌≡◌}
use Rattle.wire.specs.Be.{be_at}
use Rattle.wire.proofs.be.Given as goal

abbrev pub invariant-loop-i : goal.invariant-loop-i
invariant-loop-i l = (l.x ≡ be_at l.s l.at l.i) × (l.x < 256 ^ l.i)
