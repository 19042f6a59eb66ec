-- `erbest::port_winner` meets its contract. Assumes nothing.
use Prim.Native.Nat.{ℕ, ◌-◌, ◌+◌}
use mathlib.Core.Path.{◌≡◌, refl, sym, ap, ◌∙◌}
use native.Mathlib.Omega.{arith}
use lib.ListN.{get_or}
use Rattle.offers.specs.Offers.{offers_at, down_from}
use Rattle.erbest.specs.Place.{stays_in, walk, winner_place}
use Rattle.erbest.proofs.Place.{offered-kept, walk_turn}
use Rattle.erbest.proofs.port_winner.Goals as goal

pub loop-i-init : goal.loop-i-init
unfolding winner_place
loop-i-init c = ((λ h. absurd (omega arith)), refl)

pub keep-held-requires : goal.keep-held-requires
keep-held-requires c = record { port_len = (c.requires.0, c.requires.1, omega arith); offered = c.loop-i.invariant.0 }

pub loop-i-preserved : goal.loop-i-preserved
loop-i-preserved c =
    let p = c.args.port.now in
    let l = c.loop-i in
    let e : l.i - 1 + 1 ≡ l.i = omega arith in (
      rw c.keep-held.ensures (offered-kept p l.held (l.i - 1) l.invariant.0),
      l.invariant.1
          ∙ rw e at (walk_turn p l.held (l.i - 1))
          ∙ ap (λ (h : ℕ). walk (stays_in p) (get_or p 1 0) h (down_from (l.i - 1) (offers_at p))) (sym c.keep-held.ensures),
    )

pub returns : goal.returns
unfolding walk down_from
returns c =
    let e : c.loop-i.i ≡ 0 = omega arith in
    sym (rw e at c.loop-i.invariant.1)
