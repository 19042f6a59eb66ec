-- The number of a port's state by candidates, and the state by its number.
-- Assumes nothing.
use Rattle.std.specs.Prelude.{ℕ, Bool, false, cond, ◌||◌, eqb, Option, Some, None, option_map}
use Rattle.order.specs.Order.{is_less}
use Rattle.announce.specs.declared.AnnounceMessage.{AnnounceMessage}
use Rattle.compare.specs.declared.InternalDefaultDS.{InternalDefaultDS}
use Rattle.compare.specs.Dataset.{of_own, compare_of, as_ordering, is_by_topology}
use Rattle.choice.specs.declared.BestAnnounceMessage.{BestAnnounceMessage}
use Rattle.choice.specs.declared.Candidate.{Candidate}
use Rattle.choice.specs.Candidate.{dataset_of, whole, keep_best}
use Rattle.decision.specs.declared.RecommendedState.{RecommendedState}
use Rattle.decision.specs.declared.RecommendedState.TheVariants.{Stay, M1, M2, M3, P1, P2, S1}
use Rattle.decision.specs.State.{low}

-- the candidate of a best message, if there is one
abbrev pub shown : Option BestAnnounceMessage → Option Candidate
shown b = option_map whole b

-- one step of the choice among the ports: a port without a candidate changes nothing
abbrev pub keep_next : Option Candidate → Option Candidate → Option Candidate
keep_next held None = held
keep_next held (Some b) = keep_best held b

-- ---- the number, by candidates

-- our own data ranks below a candidate
unfoldable pub own_below : InternalDefaultDS → Candidate → Bool
own_below own c = is_less (as_ordering (compare_of (of_own own) (dataset_of c)))

-- class 1 to 127: the port's candidate alone
abbrev pub low_number : InternalDefaultDS → Option Candidate → ℕ
low_number own None = 1
low_number own (Some p) = cond (own_below own p) 4 1

-- Ebest ranks above our own data: it was received by this port, or is better by topology alone, or neither
abbrev pub against_number : Candidate → Option Candidate → ℕ
against_number g None = 3
against_number g (Some p) =
    cond (eqb g.receiver_port p.receiver_port) 6 (cond (is_by_topology (compare_of (dataset_of g) (dataset_of p))) 5 3)

-- any other class: Ebest first
abbrev pub high_number : InternalDefaultDS → Option Candidate → Option Candidate → ℕ
high_number own None p = 2
high_number own (Some g) p = cond (own_below own g) (against_number g p) 2

-- a listening port without a candidate stays as it is
abbrev pub stays_as : Bool → Option Candidate → Bool
stays_as listening None = listening
stays_as listening (Some p) = false

unfoldable pub number_by : InternalDefaultDS → Option Candidate → Option Candidate → Bool → ℕ
number_by own g p listening = cond (stays_as listening p) 0 (cond (low own) (low_number own p) (high_number own g p))

-- ---- the state, by its number

-- it carries the port's own message: P1 and P2
unfoldable pub of_port : ℕ → Bool
of_port n = eqb n 4 || eqb n 5

-- with the message that it carries
unfoldable pub carrying : ℕ → AnnounceMessage → RecommendedState
carrying n m = cond (eqb n 3) (M3 m) (cond (eqb n 4) (P1 m) (cond (eqb n 5) (P2 m) (S1 m)))

-- with the best message that it carries, if there is one
abbrev pub carrying_best : ℕ → Option BestAnnounceMessage → RecommendedState
carrying_best n None = Stay
carrying_best n (Some b) = carrying n b.message

-- 0 stay, 1 M1, 2 M2; from 3 on a state that carries a message, the port's own or Ebest
unfoldable pub state_by : ℕ → InternalDefaultDS → Option BestAnnounceMessage → Option BestAnnounceMessage → RecommendedState
state_by n own g p =
    cond (eqb n 0) Stay (cond (eqb n 1) (M1 own) (cond (eqb n 2) (M2 own) (carrying_best n (cond (of_port n) p g))))
