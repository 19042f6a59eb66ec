-- `tlv::list_check` meets its contract. The invariant: the check of the rest is the check of the whole. The measure is the length of the rest.
-- Assumes nothing.
use mathlib.Core.Path.{◌≡◌}
use lib.ListN.{length}
use Rattle.tlv.specs.Tlv.{list_check}
use Rattle.tlv.proofs.list_check.Given as goal

abbrev pub invariant-loop-next : goal.invariant-loop-next
invariant-loop-next l = list_check l.least l.rest ≡ list_check l.least l.s

abbrev pub decreases-loop-next : goal.decreases-loop-next
decreases-loop-next l = length l.rest
