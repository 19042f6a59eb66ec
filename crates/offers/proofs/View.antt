-- The offers of a port on its words are those of its lists.
-- Assumes nothing.
use Prim.Native.Nat.{ℕ, zero, suc, ◌+◌, ◌-◌, ◌≤◌}
use Rattle.std.specs.Prelude.{◌≡◌, Bool, leb, length, get_or}
use Rattle.std.proofs.Math.Path.{refl, ap, ap₂}
use Rattle.std.proofs.Common.{sym, ◌∙◌, arith, le-leb, zero-add, add-zero, add-suc, suc-add}
use Rattle.std.proofs.Math.Bool.{true, false, cond}
use mathlib.Core.List.{List, [], ◌∷◌, ◌++◌, map, append-nil, append_assoc}
use Rattle.header.specs.declared.PortIdentity.{PortIdentity}
use Rattle.slot.specs.declared.ForeignAnnounceMessage.{ForeignAnnounceMessage}
use Rattle.history.specs.Port.{Reads, Master, Offer, best_of, offered, newest, offer_of, offers_from}
use Rattle.book.specs.Below.{tab, tab_snoc, length-tab}
use Rattle.book.specs.Layout.{master_of, port_of, message_at, reads}
use Rattle.offers.specs.Offers.{qualified, master_in, offers_at, offer_at, down_from, offering}

-- the newest of the values of a function, and what they offer
newest-tab : {A : Type 0} (f : ℕ → A) (n : ℕ) → newest (f 0) (tab n (λ k. f (suc k))) ≡ f n
newest-tab f zero = refl
newest-tab f (suc n) = newest-tab (λ k. f (suc k)) n

pub offered-tab : {A : Type 0} (f : ℕ → A) (n : ℕ) → offered (tab n f) ≡ cond (leb 2 n) (f (n - 1) ∷ []) []
offered-tab f zero = refl
offered-tab f (suc zero) = refl
offered-tab {A = A} f (suc (suc n)) =
    let more : 2 ≤ suc (suc n) = omega arith in
    let last : suc (suc n) - 1 ≡ suc n = omega arith in
    rw (le-leb 2 (suc (suc n)) more, last) (ap (λ (x : A). x ∷ []) (newest-tab (λ k. f (suc k)) n))

-- a list offers a message exactly when it has as many as that
pub offers : {A : Type 0} (ms : List A) → leb 1 (length (offered ms)) ≡ qualified (length ms)
offers [] = refl
offers (x ∷ []) = refl
offers (x ∷ y ∷ ms) = sym (le-leb 2 (length (x ∷ y ∷ ms)) (omega arith))

module _ {A : Type 0} (R : Reads A) (r : PortIdentity) where
  -- the offer of the last master comes first
  offers-last : (k : ℕ) (Ms : List (Master A)) (M : Master A) → offers_from R r k (Ms ++ (M ∷ [])) ≡ offer_of R r (k + length Ms) M ++ offers_from R r k Ms
  offers-last k [] M = ap (λ (i : ℕ). offer_of R r i M) (sym (add-zero k)) ∙ sym (append-nil (offer_of R r (k + 0) M))
  offers-last k (N ∷ Ms) M =
      ap (λ (os : List Offer). os ++ offer_of R r k N)
      (offers-last (suc k) Ms M ∙ ap (λ (i : ℕ). offer_of R r i M ++ offers_from R r (suc k) Ms) (suc-add k (length Ms) ∙ sym (add-suc k (length Ms))))
      ∙ append_assoc (offer_of R r (k + suc (length Ms)) M) (offers_from R r (suc k) Ms) (offer_of R r k N)

module _ (r : PortIdentity) (p : List ℕ) where
  abbrev master : ℕ → Master ForeignAnnounceMessage
  master i = master_of (master_in p i)

  -- master i offers its newest message, or none
  offer_view : (i : ℕ) → offer_of reads r i (master i) ≡ cond (offers_at p i) (offer_at r p i ∷ []) []
  unfolding master_of
  offer_view i = ap (map offer) (offered-tab (message_at m) (get_or m 3 0)) ∙ go (offers_at p i)
    where
      m : List ℕ
      m = master_in p i

      offer : ForeignAnnounceMessage → Offer
      offer x = record { place = i; best = best_of reads r x }

      go : (b : Bool) → map offer (cond b (message_at m (get_or m 3 0 - 1) ∷ []) []) ≡ cond b (offer_at r p i ∷ []) []
      go true = refl
      go false = refl

  first-offers : (n : ℕ) → offers_from reads r 0 (tab n master) ≡ map (offer_at r p) (down_from n (offers_at p))
  unfolding down_from
  first-offers zero = refl
  first-offers (suc n) =
      ap (offers_from reads r 0) (tab_snoc n master)
      ∙ offers-last reads r 0 (tab n master) (master n)
      ∙ ap (λ (i : ℕ). offer_of reads r i (master n) ++ offers_from reads r 0 (tab n master)) (zero-add (length (tab n master)) ∙ length-tab n master)
      ∙ ap₂ ◌++◌ (offer_view n) (first-offers n)
      ∙ go (offers_at p n)
    where
      go : (b : Bool) → cond b (offer_at r p n ∷ []) [] ++ map (offer_at r p) (down_from n (offers_at p)) ≡ map (offer_at r p) (cond b (n ∷ down_from n (offers_at p)) (down_from n (offers_at p)))
      go true = refl
      go false = refl

  -- the offers of a port's masters, from the last to the first
  pub offers_view : offers_from reads r 0 (port_of p).masters ≡ map (offer_at r p) (offering p)
  unfolding port_of
  offers_view = first-offers (get_or p 1 0)
