-- The words of a candidate tell all of it; a list of them is read one after the other.
-- Assumes nothing.
use Rattle.std.specs.Prelude.{ℕ, suc, ◌+◌, ◌-◌, ◌*◌, ◌/◌, ◌%◌, ◌^◌, ◌<◌, ◌≤◌, ◌≡◌, Bool, true, cond, ◌&&◌, List, [], ◌∷◌, length, take, drop}
use Rattle.std.proofs.Common.{ap, ◌∙◌, arith, drop-drop}
use Rattle.std.proofs.Math.Nat.{mod-eq_of_lt}
use borrow.Author.Tests.{le-leb, eq-eqb, ne_eqb}
use Rattle.choice.specs.declared.Candidate.{Candidate}
use Rattle.lent.specs.Words.{all_within}
use Rattle.candidate_words.specs.Words.{candidate_size, candidate_words, fits_candidate, candidate_in, candidates_in, fits_all, list_refusal}

-- the numbers of a candidate are those of its types
pub record Typed (c : Candidate) : Type 0 where
  pub priority1 : c.gm_priority_1 < 256
  pub class : c.clock_class < 256
  pub accuracy : c.clock_accuracy < 256
  pub variance : c.offset_scaled_log_variance < 65536
  pub priority2 : c.gm_priority_2 < 256
  pub grandmaster : c.gm_identity < 2 ^ 64
  pub steps : c.steps_removed < 65536
  pub sender : c.sender < 2 ^ 64
  pub clock : c.receiver_clock < 2 ^ 64
  pub port : c.receiver_port < 65536
  pub age : c.age < 2 ^ 64
  pub place : c.place < 2 ^ 64

module _ (c : Candidate) (t : Typed c) where
  -- it comes back from its words,
  pub candidate-back : candidate_in (candidate_words c) ≡ c
  unfolding candidate_in candidate_words
  candidate-back =
      simp (
        mod-eq_of_lt t.priority1,
        mod-eq_of_lt t.class,
        mod-eq_of_lt t.accuracy,
        mod-eq_of_lt t.variance,
        mod-eq_of_lt t.priority2,
        mod-eq_of_lt t.steps,
        mod-eq_of_lt t.port,
      )

  -- and its words fit their fields
  pub candidate-fits : fits_candidate (candidate_words c) ≡ true
  unfolding all_within candidate_words
  candidate-fits =
      rw (
        le-leb c.gm_priority_1 0xFF (omega (arith, t.priority1)),
        le-leb c.clock_class 0xFF (omega (arith, t.class)),
        le-leb c.clock_accuracy 0xFF (omega (arith, t.accuracy)),
        le-leb c.offset_scaled_log_variance 0xFFFF (omega (arith, t.variance)),
        le-leb c.gm_priority_2 0xFF (omega (arith, t.priority2)),
        le-leb c.gm_identity 0xFFFFFFFFFFFFFFFF (omega (arith, t.grandmaster)),
        le-leb c.steps_removed 0xFFFF (omega (arith, t.steps)),
        le-leb c.sender 0xFFFFFFFFFFFFFFFF (omega (arith, t.sender)),
        le-leb c.receiver_clock 0xFFFFFFFFFFFFFFFF (omega (arith, t.clock)),
        le-leb c.receiver_port 0xFFFF (omega (arith, t.port)),
        le-leb c.age 0xFFFFFFFFFFFFFFFF (omega (arith, t.age)),
        le-leb c.place 0xFFFFFFFFFFFFFFFF (omega (arith, t.place)),
      )

-- the candidates from the i-th on
module _ (n i : ℕ) (ws : List ℕ) where
  abbrev pub rest_of : List Candidate
  rest_of = candidates_in (n - i) (drop (i * candidate_size) ws)

  abbrev pub rest_fits : Bool
  rest_fits = fits_all (n - i) (drop (i * candidate_size) ws)

-- from the first on: all of them
module _ (n : ℕ) (ws : List ℕ) where
  all_left : n - 0 ≡ n
  all_left = omega arith

  pub rest_all : candidates_in n ws ≡ rest_of n 0 ws
  rest_all = rw all_left

  pub fits_all_lem : fits_all n ws ≡ rest_fits n 0 ws
  fits_all_lem = rw all_left

module _ (n i : ℕ) (ws : List ℕ) (lt : i < n) where
  one_less : n - i ≡ suc (n - (i + 1))
  one_less = omega arith

  past : drop candidate_size (drop (i * candidate_size) ws) ≡ drop ((i + 1) * candidate_size) ws
  past =
      let e : i * candidate_size + candidate_size ≡ (i + 1) * candidate_size = omega arith in
      drop-drop candidate_size (i * candidate_size) ws ∙ ap (λ (k : ℕ). drop k ws) e

  -- the i-th, then those after it
  pub rest-next : rest_of n i ws ≡ candidate_in (take candidate_size (drop (i * candidate_size) ws)) ∷ rest_of n (i + 1) ws
  unfolding candidates_in
  rest-next = rw (one_less, past)

  pub fits_next : rest_fits n i ws ≡ (fits_candidate (take candidate_size (drop (i * candidate_size) ws)) && rest_fits n (i + 1) ws)
  unfolding fits_all
  fits_next = rw (one_less, past)

-- past the last there is none
module _ (n i : ℕ) (ws : List ℕ) (le : n ≤ i) where
  none_left : n - i ≡ 0
  none_left = omega arith

  pub rest_end : rest_of n i ws ≡ []
  unfolding candidates_in
  rest_end = rw none_left

  pub fits-end : rest_fits n i ws ≡ true
  unfolding fits_all
  fits-end = rw none_left

-- ---- the refusal of a list by its cases

module _ (ws : List ℕ) where
  pub list_broken : (length ws % candidate_size ≡ 0 → ⊥) → 1 ≡ list_refusal ws
  unfolding list_refusal
  list_broken ne = rw (ne_eqb (length ws % candidate_size) 0 ne)

  pub list-fits : (t : Bool) → length ws % candidate_size ≡ 0 → fits_all (length ws / candidate_size) ws ≡ t → cond t 0 15 ≡ list_refusal ws
  unfolding list_refusal
  list-fits t z e = rw (eq-eqb (length ws % candidate_size) 0 z, e)
