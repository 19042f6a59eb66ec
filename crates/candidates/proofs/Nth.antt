-- An element of a list by what is left from it on, and of several lists one after the other.
-- Assumes nothing.
use Rattle.std.specs.Prelude.{ℕ, zero, suc, ◌+◌, ◌-◌, ◌≤◌, ◌<◌, ◌≡◌, refl, List, [], ◌∷◌, ◌++◌, length, drop, get_or, slice_get, Some, None}
use Rattle.std.proofs.Common.{sym, ap, ◌∙◌, arith, not-suc-le-zero, le_of_suc-le-suc, drop-cons}
use Rattle.std.proofs.lemmas.List.{drop-append-le}
use Rattle.std.proofs.Math.Seq.{drop-append-add}
use Rattle.book.specs.Below.{tab}

module _ {A : Type 0} where
  -- the element that comes next
  pub nth-next : (xs : List A) (k : ℕ) (x : A) (ys : List A) → drop k xs ≡ x ∷ ys → slice_get xs k ≡ Some x
  nth-next xs zero x ys e = ap (λ l. slice_get l 0) e
  nth-next [] (suc k) x ys e = ap (λ l. slice_get l 0) e
  nth-next (z ∷ xs) (suc k) x ys e = nth-next xs k x ys e

  pub get_or-next : (xs : List A) (k : ℕ) (x : A) (ys : List A) (d : A) → drop k xs ≡ x ∷ ys → get_or xs k d ≡ x
  get_or-next xs zero x ys d e = ap (λ l. get_or l 0 d) e
  get_or-next [] (suc k) x ys d e = ap (λ l. get_or l 0 d) e
  get_or-next (z ∷ xs) (suc k) x ys d e = get_or-next xs k x ys d e

  -- where none is left
  pub nth-none : (xs : List A) (k : ℕ) → drop k xs ≡ [] → slice_get xs k ≡ None
  nth-none xs zero e = ap (λ l. slice_get l 0) e
  nth-none [] (suc k) e = refl
  nth-none (z ∷ xs) (suc k) e = nth-none xs k e

-- a list that stands first: the element is in it, or it is passed over
module _ {A : Type 0} (xs ys : List A) (k : ℕ) where
  pub within : (d : A) → k < length xs → drop k (xs ++ ys) ≡ get_or xs k d ∷ (drop (suc k) xs ++ ys)
  within d h = drop-append-le k xs ys (omega arith) ∙ ap (λ l. l ++ ys) (drop-cons xs k d h)

  pub beyond : length xs ≤ k → drop k (xs ++ ys) ≡ drop (k - length xs) ys
  beyond h =
      let e : length xs + (k - length xs) ≡ k = omega arith in
      ap (λ (j : ℕ). drop j (xs ++ ys)) (sym e) ∙ drop-append-add xs ys (k - length xs)

-- what is left of the values of a function
pub drop-tab : {A : Type 0} (n : ℕ) (f : ℕ → A) (q : ℕ) → q < n → drop q (tab n f) ≡ f q ∷ drop (suc q) (tab n f)
drop-tab zero f q h = absurd (not-suc-le-zero h)
drop-tab (suc n) f zero h = refl
drop-tab (suc n) f (suc q) h = drop-tab n (λ k. f (suc k)) q (le_of_suc-le-suc h)
