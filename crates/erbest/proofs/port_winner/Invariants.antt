-- `erbest::port_winner` meets its contract. Assumes nothing.
use mathlib.Core.Path.{◌≡◌}
use lib.ListN.{get_or}
use Rattle.offers.specs.Offers.{offers_at, down_from}
use Rattle.erbest.specs.Place.{Offered, stays_in, walk, winner_place}
use Rattle.erbest.proofs.port_winner.Given as goal

abbrev pub invariant-loop-i : goal.invariant-loop-i
invariant-loop-i l = Offered l.port l.held × (winner_place l.port ≡ walk (stays_in l.port) (get_or l.port 1 0) l.held (down_from l.i (offers_at l.port)))
