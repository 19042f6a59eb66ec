-- Words written one after the other, and the two ways of a call that is lent room for its answer.
-- Assumes nothing.
use Rattle.std.specs.Prelude.{ℕ, ◌+◌, ◌≤◌, ◌<◌, ◌≡◌, refl, Bool, true, false, cond, ◌&&◌, List, [], ◌∷◌, ◌++◌, leb, ltb, length, set, suc, take, drop, get_or}
use Rattle.std.proofs.Common.{sym, ap, ◌∙◌, add-zero, arith, lt-ltb, le-ltb, ltb-false, le-leb, drop_of_length-le}
use Rattle.std.specs.List.{list_all, zip}
use Rattle.wire.specs.Be.{put}
use Rattle.wire.proofs.BeLaws.{length-put, put-nil, put_last, put-put}
use Rattle.lent.specs.Words.{all_within, lent}
use Rattle.std.proofs.lemmas.Bool.{lt-leb}
use Rattle.std.proofs.Math.Seq.{drop-cons}

-- a word set is a run of one word
pub put_one : (s : List ℕ) (k b : ℕ) → k < length s → set s k b ≡ put s k (b ∷ [])
put_one s k b lt =
    sym (put-nil (set s k b) k)
    ∙ ap (λ (j : ℕ). put (set s j b) k []) (sym (add-zero k))
    ∙ put_last s k [] b (omega arith)

-- one word after a run
pub put_next : (s : List ℕ) (at k : ℕ) (bs : List ℕ) (b : ℕ) → k ≡ at + length bs → k < length s → set (put s at bs) k b ≡ put s at (bs ++ (b ∷ []))
put_next s at k bs b e lt =
    put_one (put s at bs) k b (omega (arith, length-put s at bs (omega arith)))
    ∙ put-put s at k bs (b ∷ []) e (omega arith)

-- a run after one word, which leaves the length as it is
module _ (s : List ℕ) (at n : ℕ) (ws : List ℕ) (room : at + 1 + length ws ≤ length s) where
  pub put_front : put (set s at n) (at + 1) ws ≡ put s at (n ∷ ws)
  put_front =
      ap (λ (t : List ℕ). put t (at + 1) ws) (put_one s at n (omega arith))
      ∙ put-put s at (at + 1) (n ∷ []) ws refl (omega arith)

  pub length_front : length (put (set s at n) (at + 1) ws) ≡ length s
  length_front = ap length put_front ∙ length-put s at (n ∷ ws) (omega arith)

-- ---- a call with a lent answer

module _ {A : Type 0} (n : ℕ) (a : List ℕ) (short enough : A) where
  pub lent-short : length a < n → short ≡ lent n a short enough
  unfolding lent
  lent-short lt = rw (lt-ltb (length a) n lt)

  pub lent-enough : n ≤ length a → enough ≡ lent n a short enough
  unfolding lent
  lent-enough le = rw (le-ltb (length a) n le)

-- where a call that answers 1 for too few words answers 0, there is room
pub lent-room : (n : ℕ) (a : List ℕ) (x : ℕ) → lent n a 1 x ≡ 0 → n ≤ length a
unfolding lent
lent-room n a x = go (ltb (length a) n) refl
  where
    go : (t : Bool) → ltb (length a) n ≡ t → ◌≡◌ {A = ℕ} (cond t 1 x) 0 → n ≤ length a
    go true e z = absurd (omega (arith, z))
    go false e z = ltb-false (length a) n e

-- ---- words against limits, pair by pair

pub within-zip : (ws ls : List ℕ) → length ls ≤ length ws → list_all (λ (p : ℕ × ℕ). leb p.1 p.0) (zip ls ws) ≡ all_within ws ls
unfolding all_within
within-zip ws [] h = refl
within-zip [] (l ∷ ls) h = absurd (omega (arith, h))
within-zip (w ∷ ws) (l ∷ ls) h = ap (λ (t : Bool). leb w l && t) (within-zip ws ls (omega (arith, h)))

-- words past the limits are not looked at
pub within-take : (ws ls : List ℕ) → all_within (take (length ls) ws) ls ≡ all_within ws ls
unfolding all_within
within-take ws [] = refl
within-take [] (l ∷ ls) = refl
within-take (w ∷ ws) (l ∷ ls) = ap (λ (t : Bool). leb w l && t) (within-take ws ls)

-- ---- words against limits, one after the other

module _ (ws ls : List ℕ) (i : ℕ) (here : i < length ws) (there : i < length ls) where
  next : all_within (drop i ws) (drop i ls) ≡ (leb (get_or ws i 0) (get_or ls i 0) && all_within (drop (suc i) ws) (drop (suc i) ls))
  unfolding all_within
  next = rw (drop-cons ws i 0 here, drop-cons ls i 0 there)

  -- one that is above its limit decides
  pub within-above : get_or ls i 0 < get_or ws i 0 → all_within (drop i ws) (drop i ls) ≡ false
  within-above lt = next ∙ simp (lt-leb (get_or ws i 0) (get_or ls i 0) lt)

  -- else the others do
  pub within-next : get_or ws i 0 ≤ get_or ls i 0 → all_within (drop i ws) (drop i ls) ≡ all_within (drop (suc i) ws) (drop (suc i) ls)
  within-next le = next ∙ simp (le-leb (get_or ws i 0) (get_or ls i 0) le)

-- where all are compared they are within
pub within_all : (ws ls : List ℕ) (i : ℕ) → length ls ≤ i → all_within (drop i ws) (drop i ls) ≡ true
unfolding all_within
within_all ws ls i le = rw (drop_of_length-le ls le)
