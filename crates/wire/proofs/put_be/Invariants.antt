-- `wire::put_be` meets its contract: what is left to write leads, from any turn, to the same list.
-- Assumes nothing.
use mathlib.Core.Path.{◌≡◌}
use lib.ListN.{length}
use Rattle.wire.specs.Be.{bytes_of, put}
use Rattle.wire.proofs.put_be.Given as goal

abbrev pub invariant-loop-left : goal.invariant-loop-left
invariant-loop-left l = (length l.s ≡ length l.initial.s) × (put l.s l.at (bytes_of l.left l.rest) ≡ put l.initial.s l.at (bytes_of l.n l.x))
