-- What is decided over a store before a message is loaded, and the answers by it.
-- Assumes nothing.
use Rattle.std.specs.Prelude.{ℕ, zero, suc, ◌≡◌, cond, List, [], ◌∷◌, ◌++◌, drop, get_or, Option, Some, None}
use Rattle.wire.specs.Flags.{bit}
use Rattle.compare.specs.declared.InternalDefaultDS.{InternalDefaultDS}
use Rattle.choice.specs.declared.BestAnnounceMessage.{BestAnnounceMessage}
use Rattle.choice.specs.declared.Candidate.{Candidate}
use Rattle.decision.specs.declared.RecommendedState.{RecommendedState}
use Rattle.decision.specs.State.{state_of}
use Rattle.decision.specs.Answer.{number_of}
use Rattle.states.specs.declared.PortAnswer.{PortAnswer}
use Rattle.states.specs.Ports.{ebest_of}
use Rattle.recommend.specs.Number.{of_port, state_by}
use Rattle.slot.specs.Blocks.{block}
use Rattle.book.specs.Below.{tab}
use Rattle.book.specs.Layout.{port_words, port_at}
use Rattle.erbest.specs.Place.{winner_place}
use Rattle.bmca.specs.declared.Plan.{Plan}
use Rattle.bmca.specs.Decide.{blanks, erbest_at}

-- ---- the plan

abbrev pub zeros : List ℕ
zeros = 0 ∷ 0 ∷ 0 ∷ 0 ∷ 0 ∷ 0 ∷ 0 ∷ 0 ∷ []

-- the place of port q's winner, and those of all ports over eight of 0
abbrev pub winner_at : List ℕ → ℕ → ℕ
winner_at s q = winner_place (block s (port_at q) port_words)

unfoldable pub winners_of : List ℕ → List ℕ
winners_of s = tab (get_or s 0 0) (winner_at s) ++ drop (get_or s 0 0) zeros

-- Ebest, among the Erbests of the ports that there are
unfoldable pub ebest_in : List ℕ → Option BestAnnounceMessage
ebest_in s = ebest_of (tab (get_or s 0 0) (erbest_at s))

-- the port that received a best message, or a candidate; 0 where there is none
abbrev pub receiver_of : Option BestAnnounceMessage → ℕ
receiver_of None = 0
receiver_of (Some b) = b.identity.port_number

abbrev pub receiver_in : Option Candidate → ℕ
receiver_in None = 0
receiver_in (Some c) = c.receiver_port

-- the state of port q, and the numbers of all ports' states over eight of 0
abbrev pub state_at : List ℕ → InternalDefaultDS → ℕ → ℕ → RecommendedState
state_at s own listening q = state_of own (ebest_in s) (erbest_at s q) (bit listening q)

abbrev pub number_at : List ℕ → InternalDefaultDS → ℕ → ℕ → ℕ
number_at s own listening q = number_of (state_at s own listening q)

unfoldable pub numbers_of : List ℕ → InternalDefaultDS → ℕ → List ℕ
numbers_of s own listening = tab (get_or s 0 0) (number_at s own listening) ++ drop (get_or s 0 0) zeros

abbrev pub plan_of : List ℕ → InternalDefaultDS → ℕ → Plan
plan_of s own listening =
    record { ports = get_or s 0 0; best = receiver_of (ebest_in s); winners = winners_of s; numbers = numbers_of s own listening }

-- ---- the answers by a plan

-- a plan has the winners of the store and the port of its Ebest
abbrev pub Planned : List ℕ → Plan → Type 0
Planned s plan = (plan.best ≡ receiver_of (ebest_in s)) × (plan.winners ≡ winners_of s)

-- the Erbest of the port of this number; 0 is none
abbrev pub erbest_from : List ℕ → ℕ → Option BestAnnounceMessage
erbest_from s zero = None
erbest_from s (suc q) = erbest_at s q

-- the port whose Erbest the state of number n carries, of port q where Ebest was received by `best`
abbrev pub source_of : ℕ → ℕ → ℕ → ℕ
source_of n best q = cond (of_port n) (suc q) best

-- the state of port q by its number, and the answer
abbrev pub state_in : List ℕ → InternalDefaultDS → Plan → ℕ → RecommendedState
state_in s own plan q = state_by (get_or plan.numbers q 0) own (ebest_in s) (erbest_at s q)

abbrev pub answer_in : List ℕ → InternalDefaultDS → Plan → ℕ → PortAnswer
answer_in s own plan q = record { port_number = suc q; state = state_in s own plan q }

-- all answers, over blank ones
unfoldable pub answers_in : List ℕ → InternalDefaultDS → Plan → List PortAnswer
answers_in s own plan = tab (get_or s 0 0) (answer_in s own plan) ++ drop (get_or s 0 0) blanks
