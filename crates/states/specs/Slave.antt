-- Demand 3 of the state decision: to which port S1 is recommended, with or without the agreement.
-- Assumes nothing.
use Rattle.std.specs.Prelude.{◌≡◌, Bool, not, ◌&&◌, ℕ, suc, eqb, Option, Some, None}
use Rattle.std.proofs.Math.Bool.{true, false, cond}
use mathlib.Core.List.{List, [], ◌∷◌, map}
use Rattle.compare.specs.declared.InternalDefaultDS.{InternalDefaultDS}
use Rattle.choice.specs.declared.BestAnnounceMessage.{BestAnnounceMessage}
use Rattle.choice.specs.Choice.{All, AllOf}
use Rattle.decision.specs.declared.RecommendedState.{RecommendedState}
use Rattle.decision.specs.declared.RecommendedState.TheVariants.{Stay, M1, M2, M3, P1, P2, S1}
use Rattle.decision.specs.State.{low}
use Rattle.decision.proofs.Reasons.{own_below}
use Rattle.states.specs.declared.PortAnswer.{PortAnswer}

abbrev pub is_s1 : RecommendedState → Bool
is_s1 Stay = false
is_s1 (M1 own) = false
is_s1 (M2 own) = false
is_s1 (M3 m) = false
is_s1 (P1 m) = false
is_s1 (P2 m) = false
is_s1 (S1 m) = true

-- The three conditions: our class lies outside 1 to 127, some port has a candidate (so there is a winner), and our own data ranks
-- below the winner.
unfoldable pub recommends_s1 : InternalDefaultDS → Option BestAnnounceMessage → Bool
recommends_s1 own None = false
recommends_s1 own (Some w) = not (low own) && own_below own w

-- To which port: the one that received the winner.
unfoldable pub slave_port : InternalDefaultDS → Option BestAnnounceMessage → Option ℕ
slave_port own None = None
slave_port own (Some w) = cond (recommends_s1 own (Some w)) (Some w.identity.port_number) None

-- one flag a port, the first numbered k: is it that port?
abbrev pub is_port : ℕ → Option ℕ → Bool
is_port k None = false
is_port k (Some n) = eqb n k

unfoldable pub flags_from : {A : Type 0} → Option ℕ → ℕ → List A → List Bool
flags_from s k [] = []
flags_from s k (x ∷ xs) = is_port k s ∷ flags_from s (suc k) xs

-- how many flags are set
unfoldable pub ones : List Bool → ℕ
ones [] = 0
ones (true ∷ ts) = suc (ones ts)
ones (false ∷ ts) = ones ts

-- What the ports give: the Erbest of each was received by it, the first numbered k.
abbrev pub Ported : ℕ → List (Option BestAnnounceMessage) → Type 0
Ported k [] = Unit
Ported k (o ∷ os) = AllOf (λ v. v.identity.port_number ≡ k) o × Ported (suc k) os

-- w is the Erbest of the port that it names
abbrev pub Owned : BestAnnounceMessage → ℕ → List (Option BestAnnounceMessage) → Type 0
Owned w k [] = Unit
Owned w k (o ∷ os) = (w.identity.port_number ≡ k → o ≡ Some w) × Owned w (suc k) os

-- one flag a port: is it recommended S1?
abbrev pub flags : List PortAnswer → List Bool
flags answers = map (λ (a : PortAnswer). is_s1 a.state) answers

-- By the candidates of the ports: those of the k-th were received by port k.
abbrev pub Received : ℕ → List (List BestAnnounceMessage) → Type 0
Received k [] = Unit
Received k (bs ∷ ports) = All (λ b. b.identity.port_number ≡ k) bs × Received (suc k) ports

abbrev pub is_empty : {A : Type 0} → List A → Bool
is_empty [] = true
is_empty (x ∷ xs) = false
