-- The choice on places: a place below the count is a master, the count itself is none.
-- Assumes nothing.
use Rattle.std.specs.Prelude.{ℕ, ◌+◌, ◌<◌, ◌≤◌, ◌≡◌, Bool, cond, List, ◌∷◌, ltb, get_or}
use Rattle.std.proofs.Math.Path.{refl}
use Rattle.std.proofs.Math.Bool.{true, false}
use Rattle.std.proofs.Math.Numerals.{add-one}
use borrow.Author.Tests.{le-ltb, lt-ltb}
use Rattle.offers.specs.Offers.{offers_at, down_from}
use Rattle.erbest.specs.Place.{walk, stays_in, keep_offered, Offered}

-- ---- one turn by its cases

module _ (p : List ℕ) (held i : ℕ) where
  -- it offers nothing
  pub keep_silent : offers_at p i ≡ false → keep_offered p held i ≡ held
  unfolding keep_offered
  keep_silent e = simp e

  -- it is the first that offers
  pub keep-first : offers_at p i ≡ true → get_or p 1 0 ≤ held → keep_offered p held i ≡ i
  unfolding keep_offered
  keep-first e k = simp (e, le-ltb _ _ k)

  -- the one held stays
  pub keep-held : offers_at p i ≡ true → held < get_or p 1 0 → stays_in p held i ≡ true → keep_offered p held i ≡ held
  unfolding keep_offered
  keep-held e k s = simp (e, lt-ltb _ _ k, s)

  -- it takes the place of the one held
  pub keep-next : offers_at p i ≡ true → held < get_or p 1 0 → stays_in p held i ≡ false → keep_offered p held i ≡ i
  unfolding keep_offered
  keep-next e k s = simp (e, lt-ltb _ _ k, s)

  -- what is kept offers
  pub offered-kept : Offered p held → Offered p (keep_offered p held i)
  unfolding keep_offered
  offered-kept o = go (offers_at p i) refl (ltb held (get_or p 1 0)) (stays_in p held i)
    where
      go : (t : Bool) → offers_at p i ≡ t → (l a : Bool) → Offered p (cond t (cond l (cond a held i) i) held)
      go true e true true = o
      go true e true false = λ h. e
      go true e false a = λ h. e
      go false e l a = o

  turn_at_lem : (t : Bool) → offers_at p i ≡ t
      → walk (stays_in p) (get_or p 1 0) held (cond t (i ∷ down_from i (offers_at p)) (down_from i (offers_at p)))
      ≡ walk (stays_in p) (get_or p 1 0) (keep_offered p held i) (down_from i (offers_at p))
  unfolding walk keep_offered
  turn_at_lem true e = simp e
  turn_at_lem false e = simp e

  -- a turn leaves the same winner
  pub walk_turn : walk (stays_in p) (get_or p 1 0) held (down_from (i + 1) (offers_at p)) ≡ walk (stays_in p) (get_or p 1 0) (keep_offered p held i) (down_from i (offers_at p))
  unfolding down_from
  walk_turn = rw add-one (turn_at_lem (offers_at p i) refl)
