-- By candidates the choice is that by messages, and so is the number; and a number gives back its state.
-- Assumes nothing.
use Rattle.std.specs.Prelude.{ℕ, ◌≡◌, Bool, cond, Option, Some, None}
use Rattle.std.proofs.Math.Path.{refl}
use Rattle.std.proofs.Common.{ap, ◌∙◌}
use Rattle.std.proofs.Math.Bool.{true, false}
use borrow.Author.Tests.{eq-eqb, ne_eqb}
use Rattle.compare.specs.declared.InternalDefaultDS.{InternalDefaultDS}
use Rattle.compare.specs.Dataset.{compare_of, is_by_topology}
use Rattle.choice.specs.declared.BestAnnounceMessage.{BestAnnounceMessage}
use Rattle.choice.specs.Choice.{AllOf}
use Rattle.choice.specs.Candidate.{dataset_of, whole, stays_by}
use Rattle.decision.specs.declared.RecommendedState.{RecommendedState}
use Rattle.decision.specs.State.{stays, state_of}
use Rattle.decision.proofs.Reasons.{Reason, stay, m1_alone, m1_ahead, p1_below, m2_alone, m2_ahead, m3_alone, s1_same, p2_near, m3_far, state_reason}
use Rattle.decision.proofs.Reasons as reasons
use Rattle.decision.specs.Answer.{number_of}
use Rattle.states.specs.Ports.{keep_found}
use Rattle.recommend.specs.Number.{shown, keep_next, own_below, stays_as, number_by, of_port, carrying, carrying_best, state_by}

-- one step of the choice
pub keep-shown : (held next : Option BestAnnounceMessage) → keep_next (shown held) (shown next) ≡ shown (keep_found held next)
keep-shown held None = refl
keep-shown None (Some b) = refl
keep-shown (Some h) (Some b) = go (stays_by whole h b)
  where
    go : (t : Bool) → Some (cond t (whole h) (whole b)) ≡ Some (whole (cond t h b))
    go true = refl
    go false = refl

-- what one port received: Ebest and the port's Erbest are the same if one port received both
abbrev pub OfOne : Option BestAnnounceMessage → Option BestAnnounceMessage → Type 0
OfOne g p = AllOf (λ w. AllOf (λ v. w.identity.port_number ≡ v.identity.port_number → w ≡ v) p) g

module _ (own : InternalDefaultDS) (listening : Bool) where
  below-shown : (b : BestAnnounceMessage) → own_below own (whole b) ≡ reasons.own_below own b
  unfolding own_below
  below-shown b = refl

  stays-shown : (p : Option BestAnnounceMessage) → stays_as listening (shown p) ≡ stays listening p
  stays-shown None = refl
  stays-shown (Some b) = refl

  reason_number : (g p : Option BestAnnounceMessage) (s : RecommendedState) → OfOne g p → Reason own listening g p s → number_by own (shown g) (shown p) listening ≡ number_of s
  unfolding number_by
  reason_number g p s o (stay e) = rw e
  reason_number g p s o (m1_alone e l) = rw (e, l)
  reason_number g p s o (m1_ahead {p = b} l n) = rw (l, below-shown b ∙ n)
  reason_number g p s o (p1_below {p = b} l h) = rw (l, below-shown b ∙ h)
  reason_number g p s o (m2_alone e l) = rw (stays-shown p ∙ e, l)
  reason_number g p s o (m2_ahead {g = b} e l n) = rw (stays-shown p ∙ e, l, below-shown b ∙ n)
  reason_number g p s o (m3_alone {g = b} e l h) = rw (e, l, below-shown b ∙ h)
  reason_number g p s o (s1_same {g = w} {p = v} l h e) =
      rw (l, below-shown w ∙ h, eq-eqb w.identity.port_number v.identity.port_number (ap (λ (b : BestAnnounceMessage). b.identity.port_number) e))
  reason_number g p s o (p2_near {g = w} {p = v} l h d t) =
      let u : is_by_topology (compare_of (dataset_of (whole w)) (dataset_of (whole v))) ≡ true = t in
      rw (l, below-shown w ∙ h, ne_eqb w.identity.port_number v.identity.port_number (λ e. d (o e)), u)
  reason_number g p s o (m3_far {g = w} {p = v} l h d t) =
      let u : is_by_topology (compare_of (dataset_of (whole w)) (dataset_of (whole v))) ≡ false = t in
      rw (l, below-shown w ∙ h, ne_eqb w.identity.port_number v.identity.port_number (λ e. d (o e)), u)

  -- The number by candidates is that of the state by messages.
  pub number-shown : (g p : Option BestAnnounceMessage) → OfOne g p → number_by own (shown g) (shown p) listening ≡ number_of (state_of own g p listening)
  number-shown g p o = reason_number g p (state_of own g p listening) o (state_reason own listening g p)

  reason_by : (g p : Option BestAnnounceMessage) (s : RecommendedState) → Reason own listening g p s → state_by (number_of s) own g p ≡ s
  unfolding state_by of_port carrying
  reason_by g p s (stay e) = refl
  reason_by g p s (m1_alone e l) = refl
  reason_by g p s (m1_ahead l n) = refl
  reason_by g p s (p1_below l h) = refl
  reason_by g p s (m2_alone e l) = refl
  reason_by g p s (m2_ahead e l n) = refl
  reason_by g p s (m3_alone e l h) = refl
  reason_by g p s (s1_same l h e) = refl
  reason_by g p s (p2_near l h d t) = refl
  reason_by g p s (m3_far l h d t) = refl

  -- A number gives back its state.
  pub state-by : (g p : Option BestAnnounceMessage) → state_by (number_of (state_of own g p listening)) own g p ≡ state_of own g p listening
  state-by g p = reason_by g p (state_of own g p listening) (state_reason own listening g p)

-- A number from 3 on is that of a state that carries a message.
pub state_carries : (n : ℕ) (own : InternalDefaultDS) (g p : Option BestAnnounceMessage) → (n ≡ 0 → ⊥) → (n ≡ 1 → ⊥) → (n ≡ 2 → ⊥) → state_by n own g p ≡ carrying_best n (cond (of_port n) p g)
unfolding state_by
state_carries n own g p a b c = rw (ne_eqb n 0 a, ne_eqb n 1 b, ne_eqb n 2 c)
