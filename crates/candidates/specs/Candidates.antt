-- The candidates of a book in the order of paper 01, and what the call answers.
-- Assumes nothing.
use Rattle.std.specs.Prelude.{ℕ, suc, List, [], ◌∷◌, map, get_or, slice_get, Option, None, Result, Ok, Err}
use Rattle.wire.specs.Refusal.{on_zero}
use Rattle.refused.specs.declared.Refusal.{Refusal}
use Rattle.refused.specs.Refusal.{number_of, refused}
use Rattle.choice.specs.declared.BestAnnounceMessage.{BestAnnounceMessage}
use Rattle.choice.specs.declared.Candidate.{Candidate}
use Rattle.choice.specs.Choice.{joined}
use Rattle.choice.specs.Candidate.{candidate_of}
use Rattle.histories.specs.History.{candidates_of}
use Rattle.book.specs.Layout.{book_of, reads}
use Rattle.book.specs.Rules.{store_refusal}
use Rattle.offers.specs.Offers.{offering}

-- ---- one port, on its words

-- the place of the k-th master that offers a message, k from 0, the last master first
abbrev pub place_of : List ℕ → ℕ → ℕ
place_of p k = get_or (offering p) k 0

-- ---- the book

-- the elements of a list with their places, the first at n
abbrev pub numbered : {A : Type 0} → ℕ → List A → List (ℕ × A)
numbered n [] = []
numbered n (x ∷ xs) = (n, x) ∷ numbered (suc n) xs

-- the candidate of a message that stands at a place
abbrev pub standing : ℕ × BestAnnounceMessage → Candidate
standing o = candidate_of o.1 o.0

-- a list of messages as candidates, each with its place, from 0 on
unfoldable pub placed : List BestAnnounceMessage → List Candidate
placed bs = map standing (numbered 0 bs)

-- the messages that the masters of a book offer: port 1 first, within a port from the last master to the first
abbrev pub offered_in : List ℕ → List BestAnnounceMessage
offered_in s = joined (candidates_of reads (book_of s))

-- the list of a book's candidates
abbrev pub laid : List ℕ → List Candidate
laid s = placed (offered_in s)

-- ---- the call

-- paper 01's number of each answer, 0 for done, and the candidate that it holds
abbrev pub answer_of : Result (Option Candidate) Refusal → ℕ × Option Candidate
answer_of (Ok o) = (0, o)
answer_of (Err e) = (number_of e, None)

-- 1 and 16 come first, then the k-th candidate of the book, if there is one
unfoldable pub candidate_answer : List ℕ → ℕ → Result (Option Candidate) Refusal
candidate_answer s k = on_zero (store_refusal s) (Ok (slice_get (laid s) k)) refused
