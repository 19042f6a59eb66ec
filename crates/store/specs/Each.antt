-- Blocks of words treated one after the other, and what that leaves.
-- Assumes nothing.
use Rattle.std.specs.Prelude.{◌≡◌, refl, List, ℕ, zero, suc, ◌+◌, ◌*◌, ◌≤◌, ◌<◌, length, get_or}
use Rattle.std.proofs.Common.{sym, ap, ◌∙◌, ⊎_elim, arith, mul-le-mul_right, suc-mul, eq-or-lt_of_le, le_of_suc-le-suc, not-suc-le-zero}
use Rattle.wire.specs.Be.{put}
use Rattle.wire.proofs.BeLaws.{length-put, get_or-put_before}
use Rattle.slot.specs.Blocks.{block, grid-same, grid-other}

-- the first m blocks of n words, the first at `base`: each becomes f of it
abbrev pub each_to : ℕ → ℕ → (List ℕ → List ℕ) → ℕ → List ℕ → List ℕ
each_to base n f zero s = s
each_to base n f (suc m) s = put (each_to base n f m s) (base + m * n) (f (block (each_to base n f m s) (base + m * n) n))

-- what holds of t after the first m of so many blocks of s
pub record Treated (base n : ℕ) (f : List ℕ → List ℕ) (max : ℕ) (s : List ℕ) (m : ℕ) (t : List ℕ) : Type 0 where
  pub size : length t ≡ length s
  pub word : (j : ℕ) → j < base → get_or t j 0 ≡ get_or s j 0
  pub later : (i : ℕ) → m ≤ i → i < max → block t (base + i * n) n ≡ block s (base + i * n) n
  pub done : (i : ℕ) → i < m → block t (base + i * n) n ≡ f (block s (base + i * n) n)

module _
    (base n : ℕ) (f : List ℕ → List ℕ) (max : ℕ) (s : List ℕ) (room : base + max * n ≤ length s)
    (keeps : (i : ℕ) → i < max → length (f (block s (base + i * n) n)) ≡ n)
  where
    next : (m : ℕ) (t : List ℕ) → m < max → Treated base n f max s m t → Treated base n f max s (suc m) (put t (base + m * n) (f (block t (base + m * n) n)))
    next m t h a =
        let w : List ℕ = f (block t (base + m * n) n) in
        let e : w ≡ f (block s (base + m * n) n) = ap f (a.later m (omega arith) h) in
        let z : length w ≡ n = ap length e ∙ keeps m h in
        let fits : base + m * n + n ≤ length t = omega (arith, a.size, mul-le-mul_right n h, suc-mul m n) in
        record {
          size = length-put t (base + m * n) w (omega (arith, z)) ∙ a.size;
          word = λ j l. get_or-put_before t (base + m * n) w j (omega arith) (omega arith) ∙ a.word j l;
          later = λ i l u. grid-other t w base n m z fits i (λ e. omega arith) ∙ a.later i (omega arith) u;
          done =
              λ i l.
              ⊎_elim
              (λ q. ap (λ (k : ℕ). block (put t (base + m * n) w) (base + k * n) n) q ∙ grid-same t w base n m z fits ∙ e ∙ ap (λ (k : ℕ). f (block s (base + k * n) n)) (sym q))
              (λ u. grid-other t w base n m z fits i (λ e. omega arith) ∙ a.done i u)
              (eq-or-lt_of_le (le_of_suc-le-suc l));
        }

    -- after any number of them
    pub treated : (m : ℕ) → m ≤ max → Treated base n f max s m (each_to base n f m s)
    treated zero h = record { size = refl; word = λ j l. refl; later = λ i l u. refl; done = λ i l. absurd (not-suc-le-zero l) }
    treated (suc m) h = next m (each_to base n f m s) h (treated m (omega arith))
