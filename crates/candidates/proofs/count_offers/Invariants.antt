-- `candidates::count_offers` meets its contract. Assumes nothing.
use mathlib.Core.Path.{◌≡◌}
use lib.ListN.{length}
use Rattle.offers.specs.Offers.{offers_at, down_from}
use Rattle.candidates.proofs.count_offers.Given as goal

abbrev pub invariant-loop-i : goal.invariant-loop-i
invariant-loop-i l = l.n ≡ length (down_from l.i (offers_at l.port))
