-- What a decision answers, and every word of the store afterwards. A refusal changes no word.
-- Assumes nothing.
use Rattle.std.specs.Prelude.{ℕ, zero, suc, ◌+◌, List, [], ◌∷◌, ◌++◌, length, take, drop, get_or, Option, Some, None, Result, Ok, Err}
use Rattle.wire.specs.Refusal.{on_zero}
use Rattle.refused.specs.declared.Refusal.{Refusal}
use Rattle.refused.specs.Refusal.{number_of, refused}
use Rattle.header.specs.declared.PortIdentity.{PortIdentity}
use Rattle.announce.specs.declared.ClockQuality.{ClockQuality}
use Rattle.compare.specs.declared.InternalDefaultDS.{InternalDefaultDS}
use Rattle.choice.specs.declared.BestAnnounceMessage.{BestAnnounceMessage}
use Rattle.decision.specs.declared.RecommendedState.TheVariants.{Stay}
use Rattle.states.specs.declared.PortAnswer.{PortAnswer}
use Rattle.slot.specs.Blocks.{block}
use Rattle.slot.specs.declared.ForeignAnnounceMessage.{ForeignAnnounceMessage}
use Rattle.history.specs.Port.{Turn}
use Rattle.history.specs.Book.{Book, Call, decide, turns, states_of}
use Rattle.book.specs.Each.{each_to}
use Rattle.book.specs.Layout.{head_words, port_words, port_at, identity, book_of, reads}
use Rattle.book.specs.Rules.{store_refusal}
use Rattle.erbest.specs.Place.{winner_place, best_in}
use Rattle.consumption.specs.Consume.{consumed_in, gone_in}
use Rattle.foreign_master.specs.declared.Tallies.{Tallies}
use Rattle.foreign_master.specs.Calls.{tallies_of}
use Rattle.bmca.specs.declared.Decision.{Decision}

-- ---- the answer

-- an answer of no port, and eight of them
abbrev pub blank : PortAnswer
blank = record { port_number = 0; state = Stay }

abbrev pub blanks : List PortAnswer
blanks = blank ∷ blank ∷ blank ∷ blank ∷ blank ∷ blank ∷ blank ∷ blank ∷ []

-- the tallies of a decision that consumes so many messages
abbrev pub consuming_of : ℕ → Tallies
consuming_of n = record { evicted = 0; aged_out = 0; consumed = n }

-- a decision, by the turns of the ports: their states over blank ones, and the tallies of the messages that the turns name
abbrev pub decision_by : InternalDefaultDS → ℕ → List (Turn ForeignAnnounceMessage) → Decision
decision_by own listening Ts =
    record { ports = length Ts; answers = states_of own listening Ts ++ drop (length Ts) blanks; tallies = tallies_of Ts }

-- paper 01's number of an answer, and where it is 0 the ports' answers and the tallies
abbrev pub answer_of : Result Decision Refusal → ℕ × Option (List PortAnswer × Tallies)
answer_of (Ok d) = (0, Some (take d.ports d.answers, d.tallies))
answer_of (Err e) = (number_of e, None)

-- our own data: the priorities and the quality are given, the identity is the book's
abbrev pub own_in : Book ForeignAnnounceMessage → ℕ → ClockQuality → ℕ → InternalDefaultDS
own_in B p₁ quality p₂ =
    record { clock_identity = B.site.own; clock_quality = quality; priority_1 = p₁; priority_2 = p₂ }

abbrev pub decide_call : Book ForeignAnnounceMessage → ℕ → ClockQuality → ℕ → ℕ → Call ForeignAnnounceMessage
decide_call B p₁ quality p₂ listening = decide (own_in B p₁ quality p₂) listening

-- a decision over a book
unfoldable pub decide_of : Book ForeignAnnounceMessage → ℕ → ClockQuality → ℕ → ℕ → Decision
decide_of B p₁ quality p₂ listening =
    decision_by (own_in B p₁ quality p₂) listening (turns reads (decide_call B p₁ quality p₂ listening) B)

-- over a store: 1 and 16 come first
unfoldable pub decide_answer : List ℕ → ℕ → ClockQuality → ℕ → ℕ → Result Decision Refusal
decide_answer s p₁ quality p₂ listening = on_zero (store_refusal s) (Ok (decide_of (book_of s) p₁ quality p₂ listening)) refused

-- ---- every word afterwards

-- a port after a decision, how many of its messages are consumed, and its Erbest
abbrev pub decided_port : List ℕ → List ℕ
decided_port p = consumed_in (winner_place p) p

abbrev pub gone_port : List ℕ → ℕ
gone_port p = gone_in (winner_place p) p

abbrev pub erbest_of : PortIdentity → List ℕ → Option BestAnnounceMessage
erbest_of r p = best_in r p (winner_place p)

-- the first n ports decided
abbrev pub decided_to : ℕ → List ℕ → List ℕ
decided_to n s = each_to head_words port_words decided_port n s

-- how many of their messages are consumed
abbrev pub gone_to : ℕ → List ℕ → ℕ
gone_to zero s = 0
gone_to (suc n) s = gone_to n s + gone_port (block (decided_to n s) (port_at n) port_words)

-- every port decided
unfoldable pub decided_store : List ℕ → List ℕ
decided_store s = decided_to (get_or s 0 0) s

unfoldable pub gone_store : List ℕ → ℕ
gone_store s = gone_to (get_or s 0 0) s

-- the Erbest of port q
abbrev pub erbest_at : List ℕ → ℕ → Option BestAnnounceMessage
erbest_at s q = erbest_of (identity (get_or s 1 0) (1 + q)) (block s (port_at q) port_words)

-- the words where the store is refused are as they were
unfoldable pub decide_exit : List ℕ → List ℕ
decide_exit s = on_zero (store_refusal s) (decided_store s) (λ _. s)
