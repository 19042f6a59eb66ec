-- The words of what the calls answer, and paper 01's number of it. A refusal has no words.
-- Assumes nothing.
use Rattle.std.specs.Prelude.{ℕ, List, [], ◌∷◌, ◌++◌, Option, Some, None, Result, Ok, Err}
use Rattle.refused.specs.declared.Refusal.{Refusal}
use Rattle.refused.specs.Refusal.{number_of}
use Rattle.announce.specs.declared.AnnounceMessage.{AnnounceMessage}
use Rattle.tlv.specs.declared.TlvRead.{TlvRead}
use Rattle.tlv.specs.declared.TlvRead.TheVariants as tlv
use Rattle.frame.specs.declared.Message.{Message}
use Rattle.verdict.specs.declared.DatasetOrdering.{DatasetOrdering}
use Rattle.verdict.specs.declared.DatasetOrdering.TheVariants.{Better, BetterByTopology, Error1, Error2, WorseByTopology, Worse}
use Rattle.choice.specs.declared.Candidate.{Candidate}
use Rattle.decision.specs.declared.RecommendedState.{RecommendedState}
use Rattle.decision.specs.declared.RecommendedState.TheVariants.{Stay, M1, M2, M3, P1, P2, S1}
use Rattle.states.specs.declared.PortAnswer.{PortAnswer}
use Rattle.foreign_master.specs.declared.Tallies.{Tallies}
use Rattle.bmca.specs.declared.Decision.{Decision}
use Rattle.announce_words.specs.Words.{announce_words}
use Rattle.candidate_words.specs.Words.{candidate_words}

-- how many words the answers take
abbrev pub tally_size : ℕ
tally_size = 3

abbrev pub frame_size : ℕ
frame_size = 23

abbrev pub tlv_size : ℕ
tlv_size = 5

abbrev pub found_size : ℕ
found_size = 13

abbrev pub port_size : ℕ
port_size = 22

abbrev pub decision_size : ℕ
decision_size = 180

-- ---- a registration, or ageing: how many messages were evicted, aged out and consumed

abbrev pub tally_words : Tallies → List ℕ
tally_words t = t.evicted ∷ t.aged_out ∷ t.consumed ∷ []

abbrev pub answer_number : Result Tallies Refusal → ℕ
answer_number (Ok t) = 0
answer_number (Err e) = number_of e

abbrev pub answer_words : Result Tallies Refusal → List ℕ
answer_words (Ok t) = tally_words t
answer_words (Err e) = []

-- ---- a frame: the announce, and where the TLVs begin and end

abbrev pub message_words : Message → List ℕ
message_words m = announce_words m.announce ++ (m.tlv_start ∷ m.tlv_end ∷ [])

abbrev pub frame_number : Result Message Refusal → ℕ
frame_number (Ok m) = 0
frame_number (Err e) = number_of e

abbrev pub frame_words : Result Message Refusal → List ℕ
frame_words (Ok m) = message_words m
frame_words (Err e) = []

-- ---- an entry of a list of TLVs: 1, its type, where its value begins, how long it is, the place after it; zeros where there is none

abbrev pub tlv_number : Result TlvRead Refusal → ℕ
tlv_number (Ok r) = 0
tlv_number (Err e) = number_of e

abbrev pub entry_words : (type start len next : ℕ) → List ℕ
entry_words type start len next = 1 ∷ type ∷ start ∷ len ∷ next ∷ []

abbrev pub read_words : TlvRead → List ℕ
read_words (tlv.Entry t b l next) = entry_words t b l next.at
read_words tlv.End = 0 ∷ 0 ∷ 0 ∷ 0 ∷ 0 ∷ []

abbrev pub tlv_words : Result TlvRead Refusal → List ℕ
tlv_words (Ok r) = read_words r
tlv_words (Err e) = []

-- ---- a candidate: 1 and its words; zeros where there is none

abbrev pub found_words : Candidate → List ℕ
found_words c = 1 ∷ candidate_words c

abbrev pub not_found : List ℕ
not_found = 0 ∷ 0 ∷ 0 ∷ 0 ∷ 0 ∷ 0 ∷ 0 ∷ 0 ∷ 0 ∷ 0 ∷ 0 ∷ 0 ∷ 0 ∷ []

abbrev pub best_words : Option Candidate → List ℕ
best_words None = not_found
best_words (Some c) = found_words c

abbrev pub candidate_number : Result (Option Candidate) Refusal → ℕ
candidate_number (Ok c) = 0
candidate_number (Err e) = number_of e

abbrev pub candidate_told : Result (Option Candidate) Refusal → List ℕ
candidate_told (Ok c) = best_words c
candidate_told (Err e) = []

-- ---- a verdict: its place among the verdicts

abbrev pub verdict_number : DatasetOrdering → ℕ
verdict_number Better = 0
verdict_number BetterByTopology = 1
verdict_number Error1 = 2
verdict_number Error2 = 3
verdict_number WorseByTopology = 4
verdict_number Worse = 5

-- ---- a decision: the tallies, the count of ports, and for each of eight ports its state

-- a state: its number, then the message that it carries, or zeros
abbrev pub bare_words : ℕ → List ℕ
bare_words n = n ∷ 0 ∷ 0 ∷ 0 ∷ 0 ∷ 0 ∷ 0 ∷ 0 ∷ 0 ∷ 0 ∷ 0 ∷ 0 ∷ 0 ∷ 0 ∷ 0 ∷ 0 ∷ 0 ∷ 0 ∷ 0 ∷ 0 ∷ 0 ∷ 0 ∷ []

abbrev pub carrying_words : ℕ → AnnounceMessage → List ℕ
carrying_words n m = n ∷ announce_words m

unfoldable pub state_words : RecommendedState → List ℕ
state_words Stay = bare_words 0
state_words (M1 own) = bare_words 1
state_words (M2 own) = bare_words 2
state_words (M3 m) = carrying_words 3 m
state_words (P1 m) = carrying_words 4 m
state_words (P2 m) = carrying_words 5 m
state_words (S1 m) = carrying_words 6 m

unfoldable pub ports_words : List PortAnswer → List ℕ
ports_words [] = []
ports_words (a ∷ more) = state_words a.state ++ ports_words more

abbrev pub decided_words : Decision → List ℕ
decided_words d = (tally_words d.tallies ++ (d.ports ∷ [])) ++ ports_words d.answers

abbrev pub decision_number : Result Decision Refusal → ℕ
decision_number (Ok d) = 0
decision_number (Err e) = number_of e

abbrev pub decision_words : Result Decision Refusal → List ℕ
decision_words (Ok d) = decided_words d
decision_words (Err e) = []
