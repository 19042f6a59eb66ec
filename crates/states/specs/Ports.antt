-- The decision for all ports: Ebest among the Erbests, and an answer a port.
-- Assumes nothing.
use Rattle.std.specs.Prelude.{List, [], ◌∷◌, ℕ, suc, Option, Some, None}
use Rattle.wire.specs.Flags.{bit}
use Rattle.compare.specs.declared.InternalDefaultDS.{InternalDefaultDS}
use Rattle.choice.specs.declared.BestAnnounceMessage.{BestAnnounceMessage}
use Rattle.choice.specs.Choice.{keep, present}
use Rattle.choice.specs.Candidate.{whole, stays_by, winner, erbests}
use Rattle.decision.specs.State.{state_of}
use Rattle.states.specs.declared.PortAnswer.{PortAnswer}

-- Ebest, by the Erbests, port 1 first
unfoldable pub ebest_of : List (Option BestAnnounceMessage) → Option BestAnnounceMessage
ebest_of os = winner whole (present os)

-- one step of that choice: a port without an Erbest changes nothing
abbrev pub keep_found : Option BestAnnounceMessage → Option BestAnnounceMessage → Option BestAnnounceMessage
keep_found held None = held
keep_found None (Some b) = Some b
keep_found (Some held) (Some b) = Some (keep (stays_by whole) held b)

-- all ports, the next one numbered k + 1: bit k of the byte is set if it listens
unfoldable pub answers_from : InternalDefaultDS → Option BestAnnounceMessage → ℕ → ℕ → List (Option BestAnnounceMessage) → List PortAnswer
answers_from own g listening k [] = []
answers_from own g listening k (p ∷ ps) = record { port_number = suc k; state = state_of own g p (bit listening k) } ∷ answers_from own g listening (suc k) ps

abbrev pub answers_of : InternalDefaultDS → ℕ → List (Option BestAnnounceMessage) → List PortAnswer
answers_of own listening os = answers_from own (ebest_of os) listening 0 os

-- a decision, by the candidates of the ports, port 1 first
abbrev pub decision_of : InternalDefaultDS → ℕ → List (List BestAnnounceMessage) → List PortAnswer
decision_of own listening ports = answers_of own listening (erbests whole ports)
