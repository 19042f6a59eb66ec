-- The answers in the paper's numbers and values: each determines the answer.
-- Assumes nothing.
use Rattle.std.specs.Prelude.{◌≡◌, refl}
use Rattle.std.proofs.Common.{sym, ap, ◌∙◌}
use Rattle.decision.specs.declared.RecommendedState.{RecommendedState}
use Rattle.decision.specs.declared.RecommendedState.TheVariants.{Stay, M1, M2, M3, P1, P2, S1}
use Rattle.decision.specs.Answer.{answer_of, state_for}

state-back : (s : RecommendedState) → state_for (answer_of s) ≡ s
state-back Stay = refl
state-back (M1 own) = refl
state-back (M2 own) = refl
state-back (M3 m) = refl
state-back (P1 m) = refl
state-back (P2 m) = refl
state-back (S1 m) = refl

-- Two states with the same number and values are the same.
pub answer_determines : (s t : RecommendedState) → answer_of s ≡ answer_of t → s ≡ t
answer_determines s t e = sym (state-back s) ∙ ap state_for e ∙ state-back t
