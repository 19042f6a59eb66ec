-- `candidates::place_of` meets its contract. Assumes nothing.
use mathlib.Core.Path.{◌≡◌}
use lib.ListN.{drop}
use Rattle.offers.specs.Offers.{offers_at, down_from, offering}
use Rattle.candidates.proofs.place_of.Given as goal

abbrev pub invariant-loop-i : goal.invariant-loop-i
invariant-loop-i l = drop l.left (down_from l.i (offers_at l.port)) ≡ drop l.k (offering l.port)
