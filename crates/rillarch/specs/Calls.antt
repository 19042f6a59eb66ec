-- The calls whose slices hold more than the calls underneath are given: numbers for a quality, words for candidates and for an announce.
-- Assumes nothing.
use Rattle.std.specs.Prelude.{ℕ, Bool, not, List, [], ◌∷◌, eqb}
use Rattle.wire.specs.Refusal.{on_zero}
use Rattle.announce.specs.declared.ClockQuality.{ClockQuality}
use Rattle.frame_writer.specs.Frame as frame
use Rattle.compare.specs.Dataset.{compare_of}
use Rattle.choice.specs.Candidate.{dataset_of, winner, itself}
use Rattle.announce_words.specs.Words.{announce_refusal, announce_in}
use Rattle.candidate_words.specs.Words.{candidate_refusal, candidate_in, candidates_of, list_refusal}
use Rattle.answers.specs.Answers.{verdict_number, best_words}

-- a number that stands for yes or no
abbrev pub is_set : ℕ → Bool
is_set n = not (eqb n 0)

-- a quality by its numbers
abbrev pub quality_of : (class accuracy variance : ℕ) → ClockQuality
quality_of class accuracy variance = record { clock_class = class; clock_accuracy = accuracy; offset_scaled_log_variance = variance }

-- the comparison of two candidates: the refusal of the left, then of the right
unfoldable pub compare_number : (left right : List ℕ) → ℕ
compare_number left right = on_zero (candidate_refusal left) (candidate_refusal right) (λ n. n)

unfoldable pub compare_words : (left right : List ℕ) → List ℕ
compare_words left right =
    on_zero (compare_number left right) (verdict_number (compare_of (dataset_of (candidate_in left)) (dataset_of (candidate_in right))) ∷ []) (λ _. [])

-- the choice over a list of candidates
abbrev pub choose_number : List ℕ → ℕ
choose_number ws = list_refusal ws

unfoldable pub choose_words : List ℕ → List ℕ
choose_words ws = on_zero (list_refusal ws) (best_words (winner itself (candidates_of ws))) (λ _. [])

-- the writing of an announce: the refusal of its words, then that of the writer; and the buffer afterwards
unfoldable pub write_number : (ws tlvs buffer : List ℕ) → ℕ
write_number ws tlvs buffer = on_zero (announce_refusal ws) (frame.write_answer buffer (announce_in ws) tlvs) (λ n. n)

unfoldable pub write_exit : (ws tlvs buffer : List ℕ) → List ℕ
write_exit ws tlvs buffer = on_zero (announce_refusal ws) (frame.write_exit buffer (announce_in ws) tlvs) (λ _. buffer)
