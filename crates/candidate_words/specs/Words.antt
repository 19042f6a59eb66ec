-- The words of a candidate, one a field, the candidate of such words, and a list of them.
-- Assumes nothing.
use Rattle.std.specs.Prelude.{ℕ, zero, suc, ◌/◌, ◌%◌, Bool, true, cond, ◌&&◌, List, [], ◌∷◌, eqb, length, get_or, take, drop}
use Rattle.choice.specs.declared.Candidate.{Candidate}
use Rattle.lent.specs.Words.{all_within, lent}

-- how many words a candidate takes
abbrev pub candidate_size : ℕ
candidate_size = 12

unfoldable pub candidate_words : Candidate → List ℕ
candidate_words c =
    c.gm_priority_1
    ∷ c.clock_class
    ∷ c.clock_accuracy
    ∷ c.offset_scaled_log_variance
    ∷ c.gm_priority_2
    ∷ c.gm_identity
    ∷ c.steps_removed
    ∷ c.sender
    ∷ c.receiver_clock
    ∷ c.receiver_port
    ∷ c.age
    ∷ c.place
    ∷ []

-- the most that each field holds
abbrev pub candidate_limits : List ℕ
candidate_limits =
    0xFF
    ∷ 0xFF
    ∷ 0xFF
    ∷ 0xFFFF
    ∷ 0xFF
    ∷ 0xFFFFFFFFFFFFFFFF
    ∷ 0xFFFF
    ∷ 0xFFFFFFFFFFFFFFFF
    ∷ 0xFFFFFFFFFFFFFFFF
    ∷ 0xFFFF
    ∷ 0xFFFFFFFFFFFFFFFF
    ∷ 0xFFFFFFFFFFFFFFFF
    ∷ []

abbrev pub fits_candidate : List ℕ → Bool
fits_candidate ws = all_within ws candidate_limits

-- paper 01's number of words that are to be a candidate: 1, then 15
abbrev pub candidate_refusal : List ℕ → ℕ
candidate_refusal ws = lent candidate_size ws 1 (cond (fits_candidate ws) 0 15)

-- the candidate that the first words hold, each taken to the width of its field
unfoldable pub candidate_in : List ℕ → Candidate
candidate_in ws =
    record {
      gm_priority_1 = get_or ws 0 0 % 256;
      clock_class = get_or ws 1 0 % 256;
      clock_accuracy = get_or ws 2 0 % 256;
      gm_priority_2 = get_or ws 4 0 % 256;
      offset_scaled_log_variance = get_or ws 3 0 % 65536;
      steps_removed = get_or ws 6 0 % 65536;
      receiver_port = get_or ws 9 0 % 65536;
      gm_identity = get_or ws 5 0;
      sender = get_or ws 7 0;
      receiver_clock = get_or ws 8 0;
      age = get_or ws 10 0;
      place = get_or ws 11 0;
    }

-- ---- n candidates, one after the other

unfoldable pub candidates_in : ℕ → List ℕ → List Candidate
candidates_in zero ws = []
candidates_in (suc n) ws = candidate_in (take candidate_size ws) ∷ candidates_in n (drop candidate_size ws)

unfoldable pub fits_all : ℕ → List ℕ → Bool
fits_all zero ws = true
fits_all (suc n) ws = fits_candidate (take candidate_size ws) && fits_all n (drop candidate_size ws)

-- ---- a list of candidates

abbrev pub candidates_of : List ℕ → List Candidate
candidates_of ws = candidates_in (length ws / candidate_size) ws

-- paper 01's number of words that are to be a list of candidates: 1 where they are no whole ones, then 15
unfoldable pub list_refusal : List ℕ → ℕ
list_refusal ws = cond (eqb (length ws % candidate_size) 0) (cond (fits_all (length ws / candidate_size) ws) 0 15) 1
