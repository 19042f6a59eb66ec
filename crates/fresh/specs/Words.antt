-- A list of words by its places: a test of all of them, the list again, and the words of a function put from the start on.
-- Assumes nothing.
use Rattle.std.specs.Prelude.{ℕ, zero, suc, ◌+◌, ◌≤◌, ◌<◌, ◌≡◌, refl, Bool, ◌&&◌, get_or}
use Rattle.std.specs.List.{list_all}
use Rattle.std.proofs.Math.Path.{sym, ap, ap₂}
use Rattle.std.proofs.Common.{◌∙◌, arith, not-suc-le-zero, zero-add, add-one, drop-cons}
use mathlib.Core.List.{List, [], ◌∷◌, ◌++◌, append_assoc}
use Rattle.std.proofs.Math.ListN.{length, set, drop, get_or-append}
use Rattle.std.proofs.Math.Seq.{set_at}
use Rattle.wire.specs.Be.{put}
use Rattle.wire.proofs.BeLaws.{length-put, get_or-put_after}
use Rattle.history.specs.Sound.{every}
use Rattle.book.specs.Below.{all, all-shift, tab, tab_snoc, length-tab}

-- a test of all words is a test at every place
pub every-words : (f : ℕ → Bool) (xs : List ℕ) → every f xs ≡ all (length xs) (λ k. f (get_or xs k 0))
every-words f [] = refl
every-words f (x ∷ xs) = ap (λ (b : Bool). f x && b) (every-words f xs) ∙ sym (all-shift (λ k. f (get_or (x ∷ xs) k 0)) (length xs))

-- a test of all words, as the library says it
pub every-all : (f : ℕ → Bool) (xs : List ℕ) → list_all f xs ≡ every f xs
every-all f [] = refl
every-all f (x ∷ xs) = ap (λ (b : Bool). f x && b) (every-all f xs)

-- the words at all places are the list
pub tab-words : (xs : List ℕ) → tab (length xs) (λ k. get_or xs k 0) ≡ xs
tab-words [] = refl
tab-words (x ∷ xs) = ap (λ (l : List ℕ). x ∷ l) (tab-words xs)

-- word i of a function's values
get_or-tab : (n : ℕ) (f : ℕ → ℕ) (i : ℕ) → i < n → get_or (tab n f) i 0 ≡ f i
get_or-tab zero f i h = absurd (not-suc-le-zero h)
get_or-tab (suc n) f zero h = refl
get_or-tab (suc n) f (suc i) h = get_or-tab n (λ k. f (suc k)) i (omega arith)

-- a list of words with the first n values of a function put at its start
module _ (s : List ℕ) (f : ℕ → ℕ) (n : ℕ) where
  -- value n stored behind them is one value more
  pub put-more : (t : List ℕ) (v : ℕ) → t ≡ put s 0 (tab n f) → v ≡ f n → n < length s → set t n v ≡ put s 0 (tab (n + 1) f)
  unfolding put
  put-more t v here e h =
      ap₂ (λ (t : List ℕ) (v : ℕ). set t n v) here e
      ∙ ap (λ (m : ℕ). set (tab n f ++ drop m s) n (f n)) (zero-add (length (tab n f)) ∙ length-tab n f)
      ∙ ap (λ (r : List ℕ). set (tab n f ++ r) n (f n)) (drop-cons s n 0 h)
      ∙ set_at (tab n f) (get_or s n 0) (drop (suc n) s) (f n) n (length-tab n f)
      ∙ sym (ap (λ (m : ℕ). tab m f ++ drop (0 + length (tab m f)) s) (add-one n)
      ∙ ap (λ (m : ℕ). tab (suc n) f ++ drop m s) (zero-add (length (tab (suc n) f)) ∙ length-tab (suc n) f)
      ∙ ap (λ (t : List ℕ). t ++ drop (suc n) s) (tab_snoc n f)
      ∙ append_assoc (tab n f) (f n ∷ []) (drop (suc n) s))

  -- the length stays
  pub length-put-tab : n ≤ length s → length (put s 0 (tab n f)) ≡ length s
  length-put-tab h = length-put s 0 (tab n f) (omega (arith, length-tab n f))

  -- a word before n is the function's value
  pub put-tab_in : n ≤ length s → (i : ℕ) → i < n → get_or (put s 0 (tab n f)) i 0 ≡ f i
  unfolding put
  put-tab_in h i l = get_or-append (tab n f) (drop (0 + length (tab n f)) s) 0 i (rw (length-tab n f) l) ∙ get_or-tab n f i l

  -- a word from n on is as it was
  pub put-tab-past : n ≤ length s → (i : ℕ) → n ≤ i → get_or (put s 0 (tab n f)) i 0 ≡ get_or s i 0
  put-tab-past h i l = get_or-put_after s 0 (tab n f) i (omega (arith, length-tab n f)) (omega (arith, length-tab n f))
