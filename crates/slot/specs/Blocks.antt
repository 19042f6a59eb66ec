-- A block of a list of words, and a block put in its place. Every record of the store is such a block.
-- Assumes nothing.
use Rattle.std.specs.Prelude.{ℕ, ◌+◌, ◌-◌, ◌*◌, ◌≤◌, ◌<◌, Bool, true, false, ◌⊎◌, ◌≡◌, refl, List, ◌++◌, leb, length, take, drop, get_or, set}
use Rattle.std.proofs.Common.{inl, inr, ⊎_elim, sym, ap, ◌∙◌, append-nil, append_assoc, arith, zero-add, mul-le-mul_right, suc-mul, leb-true, leb-false, length-append, length-take, length-drop, drop_of_length-le, take-append-drop, length-take-le, drop_at, get_or-take, get_or-drop, drop-drop, drop-set-lt}
use Rattle.std.proofs.Math.Nat.{add-sub_cancel_left}
use Rattle.std.proofs.Math.Arith.{lt_of_le-ne}
use Rattle.std.proofs.lemmas.List.Edits.{sets, sets-eq}
use Rattle.std.proofs.Math.Seq.{drop-append-add, take-set-lt}
use Rattle.std.proofs.lemmas.List.{drop-set-add, take-set-le}
use Rattle.wire.specs.Be.{put}
use Rattle.wire.proofs.BeLaws.{part-put, part-put-before}

-- the `n` words from `b` on
abbrev pub block : List ℕ → ℕ → ℕ → List ℕ
block s b n = take n (drop b s)

-- ---- a block that stands there

-- a block has the length that is asked for
pub length-block : (s : List ℕ) (b n : ℕ) → b + n ≤ length s → length (block s b n) ≡ n
length-block s b n h = simp (length-take, length-drop) (omega arith)

-- a word of a block
pub get_or-block : (s : List ℕ) (b n i : ℕ) → i < n → get_or (block s b n) i 0 ≡ get_or s (b + i) 0
get_or-block s b n i h = get_or-take n (drop b s) i 0 h ∙ get_or-drop b s i 0

-- a block put where it stands
pub put-block : (s : List ℕ) (b n : ℕ) → b + n ≤ length s → put s b (block s b n) ≡ s
unfolding put
put-block s b n h =
    rw (length-block s b n h, ← drop-drop n b s, append_assoc, take-append-drop n (drop b s)) (take-append-drop b s)

-- ---- stores from the start on

-- stores to a list from its start to its end make it the list of what was stored
pub sets-all : (l vs : List ℕ) → length vs ≡ length l → sets l 0 vs ≡ vs
sets-all l vs e =
    sets-eq vs l 0 (omega arith) ∙ ap (λ (r : List ℕ). vs ++ r) (drop_of_length-le l {i = 0 + length vs} (omega arith)) ∙ append-nil vs

-- words stored from the start on, before a block that was put right behind them
pub sets-put : (s v w : List ℕ) → length v ≤ length s → sets (put s (length v) w) 0 v ≡ put s 0 (v ++ w)
unfolding put
sets-put s v w h =
    let n = length v in
    let tail = drop (n + length w) s in
    let here : length (take n s) ≡ n = length-take-le n s h in
    let long : 0 + n ≤ length (take n s ++ w ++ tail) = simp (length-append, here) (omega arith) in
    let past : drop (0 + n) (take n s ++ w ++ tail) ≡ w ++ tail = rw (zero-add n, append_assoc) (drop_at (take n s) (w ++ tail) n here) in
    let both : n + length w ≡ 0 + length (v ++ w) = omega (arith, length-append v w) in
    sets-eq v (take n s ++ w ++ tail) 0 long
    ∙ ap (λ (r : List ℕ). v ++ r) past
    ∙ sym (append_assoc v w tail)
    ∙ ap (λ (k : ℕ). v ++ w ++ drop k s) both

-- ---- a part of a slice

-- the part `&s[b..b + n]` is a block
pub part-block : (s : List ℕ) (b n : ℕ) → take (b + n - b) (drop b s) ≡ block s b n
part-block s b n = ap (λ (k : ℕ). take k (drop b s)) (add-sub_cancel_left b n)

-- what comes back in its place is put
pub part-back : (s w : List ℕ) (b n : ℕ) → length w ≡ n → take b s ++ (w ++ drop (b + n - b) (drop b s)) ≡ put s b w
unfolding put
part-back s w b n e = rw (add-sub_cancel_left b n, drop-drop n b s, ← e) (sym (append_assoc (take b s) w (drop (b + length w) s)))

-- a block lent to a function that makes `f` of it: `kept` and `gives` are what the call leaves
pub lent-block : (f : List ℕ → List ℕ) (s w : List ℕ) (b n : ℕ) → b + n ≤ length s
    → length w ≡ length (take (b + n - b) (drop b s)) → w ≡ f (take (b + n - b) (drop b s))
    → take b s ++ (w ++ drop (b + n - b) (drop b s)) ≡ put s b (f (block s b n))
lent-block f s w b n fits kept gives =
    let l : length (take (b + n - b) (drop b s)) ≡ n = ap length (part-block s b n) ∙ length-block s b n fits in
    part-back s w b n (kept ∙ l) ∙ ap (put s b) (gives ∙ ap f (part-block s b n))

-- ---- a block that is put

-- a block after it is as it was; for the block itself and one before it see `part-put` and `part-put-before` of the crate wire
pub block-put-after : (s w : List ℕ) (b : ℕ) → b + length w ≤ length s → (c n : ℕ) → b + length w ≤ c → block (put s b w) c n ≡ block s c n
unfolding put
block-put-after s w b fits c n h =
    let p = take b s ++ w in
    let here : length p ≡ b + length w = simp (length-append, length-take-le b s (omega arith)) in
    let e : c ≡ length p + (c - (b + length w)) = omega arith in
    let f : b + length w + (c - (b + length w)) ≡ c = omega arith in
    ap (λ (k : ℕ). block (p ++ drop (b + length w) s) k n) e
    ∙ ap (take n) (drop-append-add p (drop (b + length w) s) (c - (b + length w)) ∙ drop-drop (c - (b + length w)) (b + length w) s)
    ∙ ap (λ (k : ℕ). block s k n) f

-- of two numbers one is the smaller
pub le-or-lt : (a b : ℕ) → (a ≤ b) ⊎ (b < a)
le-or-lt a b = pick (leb a b) refl
  where
    pick : (t : Bool) → leb a b ≡ t → (a ≤ b) ⊎ (b < a)
    pick true e = inl (leb-true a b e)
    pick false e = inr (leb-false a b e)

-- block x ends before block y begins
steps_apart : (n : ℕ) {x y : ℕ} → x < y → x * n + n ≤ y * n
steps_apart n {x} {y} h = omega (arith, mul-le-mul_right n h, suc-mul x n)

-- a grid of blocks of n words, the first at `base`: block x is put
module _ (s w : List ℕ) (base n x : ℕ) (size : length w ≡ n) (fits : base + x * n + n ≤ length s) where
  -- it stands there
  pub grid-same : block (put s (base + x * n) w) (base + x * n) n ≡ w
  grid-same =
      ap (λ (k : ℕ). block (put s (base + x * n) w) (base + x * n) k) (sym size) ∙ part-put s (base + x * n) w (omega arith)

  -- and every other block is as it was
  pub grid-other : (y : ℕ) → (x ≡ y → ⊥) → block (put s (base + x * n) w) (base + y * n) n ≡ block s (base + y * n) n
  grid-other y ne =
      ⊎_elim (λ l. block-put-after s w (base + x * n) (omega arith) (base + y * n) n (omega (arith, steps_apart n (lt_of_le-ne l ne))))
      (λ l. part-put-before s (base + y * n) n (base + x * n) w (omega (arith, steps_apart n l)) (omega arith))
      (le-or-lt x y)

-- ---- one word that is written

-- before the block
pub block-set-before : (s : List ℕ) (i v b n : ℕ) → i < b → block (set s i v) b n ≡ block s b n
block-set-before s i v b n h = ap (take n) (drop-set-lt b s i v h)

-- after it
pub block-set-after : (s : List ℕ) (i v b n : ℕ) → b + n ≤ i → block (set s i v) b n ≡ block s b n
block-set-after s i v b n h =
    let e : b + (i - b) ≡ i = omega arith in
    ap (λ (j : ℕ). block (set s j v) b n) (sym e) ∙ ap (take n) (drop-set-add b s (i - b) v) ∙ take-set-le n (drop b s) (i - b) v (omega arith)

-- and within it
pub block-set_in : (s : List ℕ) (i v b n : ℕ) → i < n → block (set s (b + i) v) b n ≡ set (block s b n) i v
block-set_in s i v b n h = ap (take n) (drop-set-add b s i v) ∙ take-set-lt n (drop b s) i v h
