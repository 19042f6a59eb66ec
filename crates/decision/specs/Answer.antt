-- The answers in the paper's numbers and values: each determines the answer.
-- Assumes nothing.
use Rattle.std.specs.Prelude.{cond, ℕ, eqb}
use Rattle.announce.specs.declared.AnnounceMessage.{AnnounceMessage}
use Rattle.compare.specs.declared.InternalDefaultDS.{InternalDefaultDS}
use Rattle.decision.specs.declared.RecommendedState.{RecommendedState}
use Rattle.decision.specs.declared.RecommendedState.TheVariants.{Stay, M1, M2, M3, P1, P2, S1}

-- the number of a state: 00 stay, 01 M1, 02 M2, 03 M3, 04 P1, 05 P2, 06 S1
abbrev pub number_of : RecommendedState → ℕ
number_of Stay = 0
number_of (M1 own) = 1
number_of (M2 own) = 2
number_of (M3 m) = 3
number_of (P1 m) = 4
number_of (P2 m) = 5
number_of (S1 m) = 6

-- what a state carries
pub data Carried : Type 0 where
  nothing : Carried
  own_data : InternalDefaultDS → Carried
  message : AnnounceMessage → Carried

abbrev pub carried : RecommendedState → Carried
carried Stay = nothing
carried (M1 own) = own_data own
carried (M2 own) = own_data own
carried (M3 m) = message m
carried (P1 m) = message m
carried (P2 m) = message m
carried (S1 m) = message m

abbrev pub answer_of : RecommendedState → ℕ × Carried
answer_of s = (number_of s, carried s)

-- the state of an answer
abbrev pub state_for : ℕ × Carried → RecommendedState
state_for (n, nothing) = Stay
state_for (n, own_data own) = cond (eqb n 1) (M1 own) (M2 own)
state_for (n, message m) = cond (eqb n 3) (M3 m) (cond (eqb n 4) (P1 m) (cond (eqb n 5) (P2 m) (S1 m)))
