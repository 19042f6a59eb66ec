-- A list laid over the front of another, one element after the other.
-- Assumes nothing.
use Rattle.std.specs.Prelude.{ℕ, zero, suc, ◌+◌, ◌<◌, ◌≡◌, refl, List, [], ◌∷◌, ◌++◌, length, drop, get_or, set}
use Rattle.std.proofs.Common.{sym, ap, ap₂, ◌∙◌, arith, not-suc-le-zero, le_of_suc-le-suc, add-one}
use Rattle.book.specs.Below.{tab, tab_snoc, length-tab}

module _ {A : Type 0} where
  -- the next element
  pub over-next : (xs ys : List A) (x : A) → length xs < length ys → set (xs ++ drop (length xs) ys) (length xs) x ≡ (xs ++ (x ∷ [])) ++ drop (suc (length xs)) ys
  over-next [] [] x h = absurd (not-suc-le-zero h)
  over-next [] (y ∷ ys) x h = refl
  over-next (z ∷ xs) [] x h = absurd (not-suc-le-zero h)
  over-next (z ∷ xs) (y ∷ ys) x h = ap (λ (t : List A). z ∷ t) (over-next xs ys x (le_of_suc-le-suc h))

  -- at a place that is known to be the length
  pub over-at : (xs ys : List A) (i : ℕ) (x : A) → length xs ≡ i → i < length ys → set (xs ++ drop i ys) i x ≡ (xs ++ (x ∷ [])) ++ drop (suc i) ys
  over-at xs ys i x e h =
      ap (λ (j : ℕ). set (xs ++ drop j ys) j x) (sym e)
      ∙ over-next xs ys x (omega (arith, e))
      ∙ ap (λ (j : ℕ). (xs ++ (x ∷ [])) ++ drop (suc j) ys) e

  -- the next value of a function
  pub over-tab : (f : ℕ → A) (ys zs : List A) (i : ℕ) (x : A) → zs ≡ tab i f ++ drop i ys → i < length ys → x ≡ f i → set zs i x ≡ tab (i + 1) f ++ drop (i + 1) ys
  over-tab f ys zs i x e h v =
      rw add-one
      (ap₂ (λ (l : List A) (y : A). set l i y) e v
      ∙ over-at (tab i f) ys i (f i) (length-tab i f) h
      ∙ ap (λ (l : List A). l ++ drop (suc i) ys) (sym (tab_snoc i f)))

  -- a value below the number
  pub value-at : (n : ℕ) (f : ℕ → A) (ys : List A) (i : ℕ) (d : A) → i < n → get_or (tab n f ++ ys) i d ≡ f i
  value-at zero f ys i d h = absurd (not-suc-le-zero h)
  value-at (suc n) f ys zero d h = refl
  value-at (suc n) f ys (suc i) d h = value-at n (λ k. f (suc k)) ys i d (le_of_suc-le-suc h)
