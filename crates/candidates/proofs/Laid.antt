-- The list that a caller lays by asking for the candidates one after the other.
-- Assumes nothing.
use Rattle.std.specs.Prelude.{ℕ, zero, suc, ◌+◌, ◌*◌, ◌≤◌, ◌<◌, ◌≡◌, refl, Bool, true, false, cond, ltb, List, [], ◌∷◌, map, length, get_or, slice_get, Option, Some, None, Result, Ok, Err}
use Rattle.std.proofs.Common.{zero-le, sym, ap, ap₂, ◌∙◌, arith, not-suc-le-zero, le_of_suc-le-suc, suc-mul, length-append, drop_of_length-le}
use Rattle.std.proofs.lemmas.List.{length-map}
use Rattle.wire.specs.Refusal.{on_zero}
use Rattle.refused.specs.declared.Refusal.{Refusal}
use Rattle.refused.specs.Refusal.{refused}
use Rattle.refused.proofs.Laws.{number-of}
use Rattle.choice.specs.declared.BestAnnounceMessage.{BestAnnounceMessage}
use Rattle.choice.specs.declared.Candidate.{Candidate}
use Rattle.choice.specs.Choice.{joined}
use Rattle.history.specs.Rules.{ports_max, masters_max}
use Rattle.history.specs.Port.{receiver}
use Rattle.book.specs.Below.{tab, tab-ext}
use Rattle.book.specs.Layout.{store_words, site_of}
use Rattle.book.specs.Rules.{sound_words, store_refusal}
use Rattle.book.proofs.Rules.{held, port-held, checked}
use Rattle.offers.specs.Offers.{offers_at, best_at, offering}
use Rattle.candidates.specs.Candidates.{numbered, standing, placed, offered_in, laid, answer_of, candidate_answer}
use Rattle.candidates.proofs.Nth.{nth-none}
use Rattle.candidates.specs.View.{port_in, offers_in}
use Rattle.candidates.proofs.View.{candidates_view}
use Rattle.candidates.proofs.Steps.{count-le, answer-done}

-- what a call over a sound store answers
abbrev pub Answer : Type 0
Answer = Result (Option Candidate) Refusal

abbrev pub found : Candidate → Answer
found c = Ok (Some c)

-- what is read of a list, from its first element to its last
reads_all : (cs : List Candidate) → tab (length cs) (λ k. Ok (slice_get cs k)) ≡ map found cs
reads_all [] = refl
reads_all (c ∷ cs) = ap (λ (rs : List Answer). found c ∷ rs) (reads_all cs)

-- ---- a caller with room for n, who asks for k = 0, 1, .. until there is nothing

-- an answer, and what the answers after it lay
abbrev pub next : Answer → List Candidate → List Candidate
next (Ok None) cs = []
next (Ok (Some c)) cs = c ∷ cs
next (Err e) cs = []

-- by the answers to k = 0, 1, ..
abbrev pub asking : ℕ → (ℕ → Answer) → List Candidate
asking zero answer = []
asking (suc n) answer = next (answer 0) (asking n (λ k. answer (suc k)))

asking-ext : (n : ℕ) (f g : ℕ → Answer) → ((k : ℕ) → f k ≡ g k) → asking n f ≡ asking n g
asking-ext zero f g e = refl
asking-ext (suc n) f g e = ap₂ next (e 0) (asking-ext n (λ k. f (suc k)) (λ k. g (suc k)) (λ k. e (suc k)))

asking-all : (cs : List Candidate) (n : ℕ) → length cs ≤ n → asking n (λ k. Ok (slice_get cs k)) ≡ cs
asking-all [] zero h = refl
asking-all [] (suc n) h = refl
asking-all (c ∷ cs) zero h = absurd (not-suc-le-zero h)
asking-all (c ∷ cs) (suc n) h = ap (λ (ds : List Candidate). c ∷ ds) (asking-all cs n (le_of_suc-le-suc h))

-- ---- how long the list is

numbered-length : {A : Type 0} (n : ℕ) (xs : List A) → length (numbered n xs) ≡ length xs
numbered-length n [] = refl
numbered-length n (x ∷ xs) = ap suc (numbered-length (suc n) xs)

placed-length : (bs : List BestAnnounceMessage) → length (placed bs) ≡ length bs
unfolding placed
placed-length bs = length-map (numbered 0 bs) standing ∙ numbered-length 0 bs

joined_length : {A : Type 0} (m n : ℕ) (f : ℕ → List A) → ((q : ℕ) → q < n → length (f q) ≤ m) → length (joined (tab n f)) ≤ n * m
joined_length m zero f h = zero-le
joined_length m (suc n) f h =
    omega (arith, length-append (f 0) (joined (tab n (λ k. f (suc k)))), h 0 (omega arith), joined_length m n (λ k. f (suc k)) (λ q l. h (suc q) (omega arith)), suc-mul n m)

-- ---- the answers of the call

-- the numbers of a store's refusals are in the table
store-le : (s : List ℕ) → store_refusal s ≤ 17
unfolding store_refusal
store-le s = by (ltb (length s) store_words) (sound_words s)
  where
    by : (b c : Bool) → cond b 1 (cond c 0 16) ≤ 17
    by true c = omega arith
    by false true = omega arith
    by false false = omega arith

-- its number is that of the store's refusal, 0 where there is none; then it holds the k-th of the list, if there is one
pub answer-whole : (s : List ℕ) (k : ℕ) → answer_of (candidate_answer s k) ≡ (store_refusal s, on_zero (store_refusal s) (slice_get (laid s) k) (λ _. None))
unfolding candidate_answer
answer-whole s k = ways (store_refusal s) (slice_get (laid s) k) (store-le s)
  where
    ways : (n : ℕ) (o : Option Candidate) → n ≤ 17 → answer_of (on_zero n (Ok o) refused) ≡ (n, on_zero n o (λ _. None))
    ways zero o h = refl
    ways (suc n) o h = ap (λ (k : ℕ). (k, None)) (number-of n (omega arith))

module _ (s : List ℕ) (checks : store_refusal s ≡ 0) where
  -- The call answers the elements of the list, in their order,
  pub found_all : tab (length (laid s)) (candidate_answer s) ≡ map found (laid s)
  found_all = tab-ext (length (laid s)) (candidate_answer s) (λ k. Ok (slice_get (laid s) k)) (λ k l. sym (answer-done s k checks)) ∙ reads_all (laid s)

  -- and nothing from its length on.
  pub nothing-after : (k : ℕ) → length (laid s) ≤ k → candidate_answer s k ≡ Ok None
  nothing-after k h = sym (answer-done s k checks) ∙ ap Ok (nth-none (laid s) k (drop_of_length-le (laid s) h))

  -- So a caller who asks until there is nothing, and has room enough, lays this list,
  pub laid-by-asking : (n : ℕ) → length (laid s) ≤ n → asking n (candidate_answer s) ≡ laid s
  laid-by-asking n h = asking-ext n (candidate_answer s) (λ k. Ok (slice_get (laid s) k)) (λ k. sym (answer-done s k checks)) ∙ asking-all (laid s) n h

  -- which has no more than one candidate of each master that the ports may hold.
  pub laid-length : length (laid s) ≤ ports_max * masters_max
  laid-length =
      let sound = (checked s checks).sound in
      let each : (q : ℕ) → q < get_or s 0 0 → length (offers_in s q) ≤ masters_max =
      λ q h. omega (arith, length-map (offering (port_in s q)) (best_at (receiver (site_of s) (q + 1)) (port_in s q)), count-le (offers_at (port_in s q)) (get_or (port_in s q) 1 0), (port-held s sound q h).masters) in
      omega (arith, placed-length (offered_in s), ap (λ (bss : List (List BestAnnounceMessage)). length (joined bss)) (candidates_view s), joined_length masters_max (get_or s 0 0) (offers_in s) each, (held s sound).ports)
