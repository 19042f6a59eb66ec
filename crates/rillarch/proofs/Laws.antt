-- The calls by their cases.
-- Assumes nothing.
use Rattle.std.specs.Prelude.{ℕ, zero, suc, ◌≡◌, refl, List, [], ◌∷◌}
use Rattle.std.proofs.Math.Path.{sym}
use Rattle.std.proofs.Common.{arith}
use Rattle.refused.specs.declared.Refusal.{Refusal}
use Rattle.refused.specs.Refusal.{number_of}
use Rattle.refused.proofs.Laws.{number-positive}
use Rattle.wire.specs.Refusal.{on_zero, on-done, on-refused}
use Rattle.frame_writer.specs.Frame as frame
use Rattle.compare.specs.Dataset.{compare_of}
use Rattle.choice.specs.Candidate.{dataset_of, winner, itself}
use Rattle.announce_words.specs.Words.{announce_refusal, announce_in}
use Rattle.candidate_words.specs.Words.{candidate_refusal, candidate_in, candidates_of, list_refusal}
use Rattle.answers.specs.Answers.{verdict_number, best_words}
use Rattle.rillarch.specs.Calls.{compare_number, compare_words, choose_words, write_number, write_exit}

-- the number of a refusal is not 0
pub number-nonzero : (e : Refusal) → number_of e ≡ 0 → ⊥
number-nonzero e z = omega (arith, number-positive e, z)

module _ (left right : List ℕ) where
  abbrev verdict : ℕ
  verdict = verdict_number (compare_of (dataset_of (candidate_in left)) (dataset_of (candidate_in right)))

  -- the left is refused
  pub compare_left : (candidate_refusal left ≡ 0 → ⊥) → candidate_refusal left ≡ compare_number left right
  unfolding compare_number
  compare_left ne = sym (on-refused (candidate_refusal left) (candidate_refusal right) (λ n. n) ne)

  -- it is not, so the right decides
  pub compare_right : candidate_refusal left ≡ 0 → candidate_refusal right ≡ compare_number left right
  unfolding compare_number
  compare_right z = sym (on-done (candidate_refusal left) (candidate_refusal right) (λ n. n) z)

  -- where both are taken each has room
  pub compare_rooms : compare_number left right ≡ 0 → (candidate_refusal left ≡ 0) × (candidate_refusal right ≡ 0)
  unfolding compare_number
  compare_rooms z = by (candidate_refusal left) refl z
    where
      by : (n : ℕ) → candidate_refusal left ≡ n → on_zero n (candidate_refusal right) (λ k. k) ≡ 0 → (candidate_refusal left ≡ 0) × (candidate_refusal right ≡ 0)
      by zero e z = (e, z)
      by (suc n) e z = absurd (omega (arith, z))

  -- a refusal has no words,
  pub compare_none : (compare_number left right ≡ 0 → ⊥) → [] ≡ compare_words left right
  unfolding compare_words
  compare_none ne = sym (on-refused (compare_number left right) (verdict ∷ []) (λ _. []) ne)

  -- and what is done one
  pub compare_done : compare_number left right ≡ 0 → (verdict ∷ []) ≡ compare_words left right
  unfolding compare_words
  compare_done z = sym (on-done (compare_number left right) (verdict ∷ []) (λ _. []) z)

module _ (ws : List ℕ) where
  pub choose-none : (list_refusal ws ≡ 0 → ⊥) → [] ≡ choose_words ws
  unfolding choose_words
  choose-none ne = sym (on-refused (list_refusal ws) (best_words (winner itself (candidates_of ws))) (λ _. []) ne)

  pub choose-done : list_refusal ws ≡ 0 → best_words (winner itself (candidates_of ws)) ≡ choose_words ws
  unfolding choose_words
  choose-done z = sym (on-done (list_refusal ws) (best_words (winner itself (candidates_of ws))) (λ _. []) z)

module _ (ws tlvs buffer : List ℕ) where
  -- the words are refused, and the buffer is as it was
  pub write-refused : (announce_refusal ws ≡ 0 → ⊥) → (announce_refusal ws ≡ write_number ws tlvs buffer) × (buffer ≡ write_exit ws tlvs buffer)
  unfolding write_number write_exit
  write-refused ne =
      (sym (on-refused (announce_refusal ws) (frame.write_answer buffer (announce_in ws) tlvs) (λ n. n) ne), sym (on-refused (announce_refusal ws) (frame.write_exit buffer (announce_in ws) tlvs) (λ _. buffer) ne))

  -- they are not, so the writer decides
  pub write_done :
      announce_refusal ws ≡ 0
      → (frame.write_answer buffer (announce_in ws) tlvs ≡ write_number ws tlvs buffer) × (frame.write_exit buffer (announce_in ws) tlvs ≡ write_exit ws tlvs buffer)
  unfolding write_number write_exit
  write_done z =
      (sym (on-done (announce_refusal ws) (frame.write_answer buffer (announce_in ws) tlvs) (λ n. n) z), sym (on-done (announce_refusal ws) (frame.write_exit buffer (announce_in ws) tlvs) (λ _. buffer) z))
