-- Which words of a port consumption changes: the counts of the masters that lose, each one less.
-- Assumes nothing.
use Prim.Native.Nat.{ℕ, zero, suc, ◌+◌, ◌-◌, ◌≤◌, ◌<◌}
use Rattle.std.specs.Prelude.{◌≡◌, refl, Bool, true, false, not, ◌&&◌, eqb, length, take, drop}
use Rattle.std.proofs.Math.Path.{sym, ap}
use Rattle.std.proofs.Common.{◌∙◌, ⊎_elim, arith, eq-or-lt_of_le, le_of_suc-le-suc, not-suc-le-zero, eq-eqb, ne_eqb, length-set, get_or-set_other, drop-set-lt}
use Rattle.std.proofs.Math.Bool.{cond, and-false}
use mathlib.Core.List.{List, ◌++◌}
use Rattle.std.proofs.Math.Arith.{lt_of_le-ne}
use Rattle.std.proofs.Math.ListN.{get_or, set}
use Rattle.std.proofs.Math.Seq.{get_or-set_same}
use Rattle.std.proofs.lemmas.List.{take-set-le}
use Rattle.wire.specs.Be.{put}
use Rattle.slot.specs.Blocks.{block, length-block, get_or-block, put-block, block-set-before, block-set-after, block-set_in, le-or-lt}
use Rattle.history.proofs.Tests.{by}
use Rattle.book.specs.Layout.{master_words, master_at}
use Rattle.offers.specs.Offers.{qualified, master_in, offers_at}
use Rattle.consumption.specs.Consume.{less_at, consumed, loses, consumed_at, consumed_below, consumed_in}

-- ---- one master

module _ (w i : ℕ) (p : List ℕ) where
  -- the winner does not lose
  pub loses-won : w ≡ i → loses w p i ≡ false
  loses-won e = simp (eq-eqb w i e)

  -- nor one that offers nothing
  pub loses_silent : offers_at p i ≡ false → loses w p i ≡ false
  loses_silent e = simp (e, and-false)

  -- any other does
  pub loses-offered : (w ≡ i → ⊥) → offers_at p i ≡ true → loses w p i ≡ true
  loses-offered ne e = simp (ne_eqb w i ne, e)

  -- where it loses, its count is one less
  pub at-lost : loses w p i ≡ true → consumed_at w i p ≡ less_at (master_at i + 3) p
  unfolding consumed_at
  at-lost e = rw e

  -- else all is as it was
  pub at-kept : loses w p i ≡ false → consumed_at w i p ≡ p
  unfolding consumed_at
  at-kept e = rw e

  -- what holds of both holds of the outcome
  either : (P : List ℕ → Type 0) → (loses w p i ≡ true → P (less_at (master_at i + 3) p)) → P p → P (consumed_at w i p)
  unfolding consumed_at
  either P lost kept = by (λ b. P (cond b (less_at (master_at i + 3) p) p)) (loses w p i) lost (λ e. kept)

  -- it keeps its length
  length_at : length (consumed_at w i p) ≡ length p
  length_at = either (λ q. length q ≡ length p) (λ e. length-set p (master_at i + 3) (get_or p (master_at i + 3) 0 - 1)) refl

  -- any other word stays
  at-word : (j : ℕ) → (loses w p i ≡ true → j ≡ master_at i + 3 → ⊥) → get_or (consumed_at w i p) j 0 ≡ get_or p j 0
  at-word j ne =
      either (λ q. get_or q j 0 ≡ get_or p j 0) (λ e. get_or-set_other p (master_at i + 3) j (get_or p (master_at i + 3) 0 - 1) 0 (ne e)) refl

  -- and any other master
  at_other : (k : ℕ) → (i ≡ k → ⊥) → master_in (consumed_at w i p) k ≡ master_in p k
  at_other k ne =
      let v : ℕ = get_or p (master_at i + 3) 0 - 1 in
      either (λ q. master_in q k ≡ master_in p k)
      (λ e. ⊎_elim (λ l. block-set-before p (master_at i + 3) v (master_at k) master_words (omega (arith, lt_of_le-ne l ne)))
      (λ l. block-set-after p (master_at i + 3) v (master_at k) master_words (omega arith)) (le-or-lt i k)) refl

  -- the master itself
  at_same : master_in (consumed_at w i p) i ≡ cond (loses w p i) (consumed (master_in p i)) (master_in p i)
  unfolding consumed_at consumed
  at_same =
      by (λ b. master_in (cond b (less_at (master_at i + 3) p) p) i ≡ cond b (less_at 3 (master_in p i)) (master_in p i)) (loses w p i)
      (λ e. block-set_in p 3 (get_or p (master_at i + 3) 0 - 1) (master_at i) master_words (omega arith)
      ∙ ap (λ (x : ℕ). set (master_in p i) 3 (x - 1)) (sym (get_or-block p (master_at i) master_words 3 (omega arith))))
      (λ e. refl)

-- a block with one word less, put where it stands
pub put_less : (s : List ℕ) (b n j : ℕ) → j < n → b + n ≤ length s → put s b (less_at j (block s b n)) ≡ less_at (b + j) s
unfolding put
put_less s b n j l h =
    let v : ℕ = get_or s (b + j) 0 - 1 in
    let t : List ℕ = set s (b + j) v in
    let m : length (block t b n) ≡ n = length-block t b n (omega (arith, length-set s (b + j) v)) in
    let here : less_at j (block s b n) ≡ block t b n =
    ap (λ (x : ℕ). set (block s b n) j (x - 1)) (get_or-block s b n j l) ∙ sym (block-set_in s j v b n l) in
    ap (put s b) here
    ∙ ap (λ (x : List ℕ). x ++ block t b n ++ drop (b + length (block t b n)) s) (sym (take-set-le b s (b + j) v (omega arith)))
    ∙ ap (λ (x : List ℕ). take b t ++ block t b n ++ x) (sym (drop-set-lt (b + length (block t b n)) s (b + j) v (omega (arith, m))))
    ∙ put-block t b n (omega (arith, length-set s (b + j) v))

-- ---- the masters one after the other

module _ (w : ℕ) (p : List ℕ) where
  -- the words after n masters
  abbrev so_far : ℕ → List ℕ
  so_far n = consumed_below w n p

  -- they are as many
  pub length-below : (n : ℕ) → length (so_far n) ≡ length p
  length-below zero = refl
  length-below (suc n) = length_at w n (so_far n) ∙ length-below n

  -- the masters still to come are as they were
  below-later : (n k : ℕ) → n ≤ k → master_in (so_far n) k ≡ master_in p k
  below-later zero k l = refl
  below-later (suc n) k l = at_other w n (so_far n) k (λ e. omega arith) ∙ below-later n k (omega arith)

  -- so whether the next loses is as before
  pub below-loses : (n : ℕ) → loses w (so_far n) n ≡ loses w p n
  below-loses n = ap (λ (m : List ℕ). not (eqb w n) && qualified (get_or m 3 0)) (below-later n n (omega arith))

  -- those before have given up their newest message where they lose
  below-done : (n k : ℕ) → k < n → master_in (so_far n) k ≡ cond (loses w p k) (consumed (master_in p k)) (master_in p k)
  below-done zero k l = absurd (not-suc-le-zero l)
  below-done (suc n) k l =
      ⊎_elim
      (λ e. rw e
      (at_same w n (so_far n)
      ∙ ap (λ (m : List ℕ). cond (not (eqb w n) && qualified (get_or m 3 0)) (consumed m) m) (below-later n n (omega arith))))
      (λ lt. at_other w n (so_far n) k (λ e. omega arith) ∙ below-done n k lt)
      (eq-or-lt_of_le (le_of_suc-le-suc l))

  -- and every word is as it was but their counts
  below_word : (n j : ℕ) → ((i : ℕ) → i < n → loses w p i ≡ true → j ≡ master_at i + 3 → ⊥) → get_or (so_far n) j 0 ≡ get_or p j 0
  below_word zero j ne = refl
  below_word (suc n) j ne =
      at-word w n (so_far n) j (λ e. ne n (omega arith) (sym (below-loses n) ∙ e)) ∙ below_word n j (λ i l. ne i (omega arith))

  -- ---- the port

  -- master k of a port
  pub consumed-master : (k : ℕ) → k < get_or p 1 0 → master_in (consumed_in w p) k ≡ cond (loses w p k) (consumed (master_in p k)) (master_in p k)
  unfolding consumed_in
  consumed-master k l = below-done (get_or p 1 0) k l

  -- every word is as it was but the counts of the masters that lose
  pub consumed-word : (j : ℕ) → ((i : ℕ) → i < get_or p 1 0 → loses w p i ≡ true → j ≡ master_at i + 3 → ⊥) → get_or (consumed_in w p) j 0 ≡ get_or p j 0
  unfolding consumed_in
  consumed-word j ne = below_word (get_or p 1 0) j ne

  -- which are one less
  pub consumed-count : (k : ℕ) → k < get_or p 1 0 → master_at k + master_words ≤ length p → loses w p k ≡ true
      → get_or (consumed_in w p) (master_at k + 3) 0 ≡ get_or p (master_at k + 3) 0 - 1
  unfolding consumed
  consumed-count k l fits e =
      let m : List ℕ = master_in p k in
      sym (get_or-block (consumed_in w p) (master_at k) master_words 3 (omega arith))
      ∙ ap (λ (q : List ℕ). get_or q 3 0) (consumed-master k l ∙ ap (λ (b : Bool). cond b (consumed m) m) e)
      ∙ get_or-set_same m 3 (get_or m 3 0 - 1) 0 (omega (arith, length-block p (master_at k) master_words fits))
      ∙ ap (λ (x : ℕ). x - 1) (get_or-block p (master_at k) master_words 3 (omega arith))
