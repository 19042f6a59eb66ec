-- The choice on words and places is the choice among the offers of a port.
-- Assumes nothing.
use Rattle.std.specs.Prelude.{ℕ, zero, suc, ◌≤◌, ◌<◌, ◌≡◌, Bool, ltb, eqb, Option, Some, None, option_map}
use Rattle.std.proofs.Math.Path.{refl, sym, ap}
use Rattle.std.proofs.Common.{◌∙◌, arith}
use Rattle.std.proofs.Math.Bool.{true, false, cond}
use mathlib.Core.List.{List, [], ◌∷◌}
use borrow.Author.Tests.{lt-ltb, le-ltb, ltb-false, ne_eqb}
use Rattle.std.proofs.Math.ListN.{get_or}
use Rattle.header.specs.declared.PortIdentity.{PortIdentity}
use Rattle.choice.specs.Choice.{All, from, choose}
use Rattle.choice.specs.Candidate.{stays_by, winner}
use Rattle.choice.proofs.Chosen.{from_has, choose-agree, choose-map}
use Rattle.history.specs.Port.{Site, Offer, receiver, shown, won_by, chosen, decide_port}
use Rattle.book.specs.Layout.{port_of, reads}
use Rattle.book.specs.Rules.{port_sound}
use Rattle.book.proofs.Rules.{held-port, placed-foreign}
use Rattle.offers.specs.Offers.{master_in, offers_at, best_at, offer_at, down_from, offering}
use Rattle.offers.proofs.View.{offers_view}
use Rattle.stays.specs.Compared.{stays-words}
use Rattle.erbest.specs.Place.{found, best_in, walk, stays_in, winner_place}

-- ---- the walk over places is the choice left to right

down-below : (n k : ℕ) (test : ℕ → Bool) → k ≤ n → All (λ i. i < n) (down_from k test)
unfolding down_from
down-below n zero test h = tt
down-below n (suc k) test h = go (test k) (down-below n k test (omega arith))
  where
    go : (t : Bool) → All (λ i. i < n) (down_from k test) → All (λ i. i < n) (cond t (k ∷ down_from k test) (down_from k test))
    go true a = (omega arith, a)
    go false a = a

module _ (above : ℕ → ℕ → Bool) (n : ℕ) where
  -- from a place that is held
  walk_from : (held : ℕ) (is : List ℕ) → held < n → All (λ i. i < n) is → walk above n held is ≡ from above held is
  unfolding walk from
  walk_from held [] h a = refl
  walk_from held (i ∷ is) h a = rw (lt-ltb held n h) (walk_from (cond (above held i) held i) is (keep-below (above held i)) a.1)
    where
      keep-below : (t : Bool) → cond t held i < n
      keep-below true = h
      keep-below false = a.0

  -- from none
  walk-choose : {A : Type 0} (f : ℕ → A) (is : List ℕ) → All (λ i. i < n) is → found f n (walk above n n is) ≡ option_map f (choose above is)
  unfolding walk choose
  walk-choose f [] a = simp (le-ltb n n (omega arith))
  walk-choose f (i ∷ is) a =
      let l : from above i is < n = from_has (λ j. j < n) above i is a.0 a.1 in
      rw (le-ltb n n (omega arith), walk_from i is a.0 a.1, lt-ltb (from above i is) n l)

-- ---- the views

module _ (h p : List ℕ) (r : PortIdentity) (own : r.clock_identity ≡ get_or h 1 0) (sound : port_sound h p ≡ true) where
  -- a master of a sound port is not our own clock
  foreign : (i : ℕ) → i < get_or p 1 0 → r.clock_identity ≡ get_or (master_in p i) 0 0 → ⊥
  foreign i l e = placed-foreign h p i ((held-port h p sound).master i l) (sym e ∙ own)

  same : (i j : ℕ) → i < get_or p 1 0 → j < get_or p 1 0 → stays_by shown (offer_at r p i) (offer_at r p j) ≡ stays_in p i j
  same i j k l = sym (stays-words r (master_in p i) (master_in p j) (foreign i k) (foreign j l))

  -- The choice among a port's offers is the offer at the winner's place, or none.
  pub chosen_view : chosen reads r (port_of p).masters ≡ found (offer_at r p) (get_or p 1 0) (winner_place p)
  unfolding chosen winner winner_place
  chosen_view =
      let n = get_or p 1 0 in
      let below : All (λ i. i < n) (offering p) = down-below n n (offers_at p) (omega arith) in
      ap (choose (stays_by shown)) (offers_view r p)
      ∙ choose-map (offer_at r p) (stays_by shown) (offering p)
      ∙ ap (option_map (offer_at r p)) (choose-agree {P = λ i. i < n} same (offering p) below)
      ∙ sym (walk-choose (stays_in p) n (offer_at r p) (offering p) below)

  -- A master has won exactly where its place is the winner's; where no master offers, nobody has.
  pub won_view : (i : ℕ) → i < get_or p 1 0 → won_by (chosen reads r (port_of p).masters) i ≡ eqb (winner_place p) i
  won_view i l = ap (λ (w : Option Offer). won_by w i) chosen_view ∙ go (ltb (winner_place p) (get_or p 1 0)) refl
    where
      go : (t : Bool) → ltb (winner_place p) (get_or p 1 0) ≡ t → won_by (cond t (Some (offer_at r p (winner_place p))) None) i ≡ eqb (winner_place p) i
      go true e = refl
      go false e = sym (ne_eqb (winner_place p) i (λ q. absurd (omega (arith, ltb-false (winner_place p) (get_or p 1 0) e))))

-- The Erbest that a decision answers is the message at the winner's place.
pub best_view : (h p : List ℕ) (S : Site) (k : ℕ) → S.own ≡ get_or h 1 0 → port_sound h p ≡ true
    → (decide_port reads S k (port_of p)).best ≡ best_in (receiver S k) p (winner_place p)
unfolding decide_port
best_view h p S k own sound = ap (option_map (λ (o : Offer). o.best)) (chosen_view h p (receiver S k) own sound) ∙ go (ltb (winner_place p) (get_or p 1 0))
  where
    go : (t : Bool) → option_map (λ (o : Offer). o.best) (cond t (Some (offer_at (receiver S k) p (winner_place p))) None) ≡ cond t (Some (best_at (receiver S k) p (winner_place p))) None
    go true = refl
    go false = refl
