-- Why a port is recommended a state: one reason for each way through the crate's text, with what the state carries.
-- Assumes nothing.
use Rattle.std.specs.Prelude.{◌≡◌, refl, Bool, true, false, eqb, Option, Some, None}
use Rattle.std.proofs.Common.{sym, subst, ◌∙◌, eqb-true, eq-eqb}
use Rattle.std.proofs.lemmas.Bool.{false≢true}
use Rattle.compare.specs.declared.InternalDefaultDS.{InternalDefaultDS}
use Rattle.std.specs.declared.cmp.Ordering.{Ordering}
use Rattle.std.specs.declared.cmp.Ordering.TheVariants.{Less, Equal, Greater}
use Rattle.order.specs.Order.{is_less}
use Rattle.compare.specs.Dataset.{of_own, compare_of, as_ordering, is_by_topology}
use Rattle.choice.specs.declared.BestAnnounceMessage.{BestAnnounceMessage}
use Rattle.same.specs.Test.{both}
use Rattle.same.specs.Same.{same_port, same-port-eq, same-port-refl, same-message-eq, same-message-refl}
use Rattle.decision.specs.declared.RecommendedState.{RecommendedState}
use Rattle.decision.specs.declared.RecommendedState.TheVariants.{Stay, M1, M2, M3, P1, P2, S1}
use Rattle.decision.specs.State.{set_of, same_best, compared_by, compare_d0, low_by, against_port, high_by, low, stays, state_of}
use Rattle.decision.proofs.Steps.{state-same, state-near, state-far}

-- `same_best` says yes exactly when the two records are equal
pub same-best-eq : (a b : BestAnnounceMessage) → same_best a b ≡ true → a ≡ b
unfolding same_best
same-best-eq a b e =
    let p = both (same_port a.identity b.identity) _ e in
    let q = both (eqb a.age b.age) _ p.1 in
    let port = same-port-eq a.identity b.identity p.0 in
    let age = eqb-true a.age b.age q.0 in
    let message = same-message-eq a.message b.message q.1 in
    λ i. record { message = message i; age = age i; identity = port i }

pub same-best-refl : (a : BestAnnounceMessage) → same_best a a ≡ true
unfolding same_best
same-best-refl a = rw (same-port-refl a.identity, eq-eqb a.age a.age refl, same-message-refl a.message)

-- our own data ranks below a best message
abbrev pub own_below : InternalDefaultDS → BestAnnounceMessage → Bool
own_below own b = is_less (as_ordering (compare_of (of_own own) (set_of b)))

-- Of our own data, whether the port listens, Ebest, the port's Erbest, and the state that is recommended.
pub data Reason (own : InternalDefaultDS) (listening : Bool) : Option BestAnnounceMessage → Option BestAnnounceMessage → RecommendedState → Type 0 where
  -- a listening port without an Erbest stays as it is
  stay : {g : Option BestAnnounceMessage} → listening ≡ true → Reason own listening g None Stay
  -- class 1 to 127: Erbest alone is read
  m1_alone : {g : Option BestAnnounceMessage} → listening ≡ false → low own ≡ true → Reason own listening g None (M1 own)
  m1_ahead : {g : Option BestAnnounceMessage} {p : BestAnnounceMessage} → low own ≡ true → own_below own p ≡ false → Reason own listening g (Some p) (M1 own)
  p1_below : {g : Option BestAnnounceMessage} {p : BestAnnounceMessage} → low own ≡ true → own_below own p ≡ true → Reason own listening g (Some p) (P1 p.message)
  -- any other class: Ebest is read first
  m2_alone : {p : Option BestAnnounceMessage} → stays listening p ≡ false → low own ≡ false → Reason own listening None p (M2 own)
  m2_ahead : {g : BestAnnounceMessage} {p : Option BestAnnounceMessage} → stays listening p ≡ false → low own ≡ false → own_below own g ≡ false → Reason own listening (Some g) p (M2 own)
  m3_alone : {g : BestAnnounceMessage} → listening ≡ false → low own ≡ false → own_below own g ≡ true → Reason own listening (Some g) None (M3 g.message)
  -- Ebest is this port's Erbest, or is better by topology alone, or neither
  s1_same : {g p : BestAnnounceMessage} → low own ≡ false → own_below own g ≡ true → g ≡ p → Reason own listening (Some g) (Some p) (S1 g.message)
  p2_near : {g p : BestAnnounceMessage} → low own ≡ false → own_below own g ≡ true → (g ≡ p → ⊥) → is_by_topology (compare_of (set_of g) (set_of p)) ≡ true → Reason own listening (Some g) (Some p) (P2 p.message)
  m3_far : {g p : BestAnnounceMessage} → low own ≡ false → own_below own g ≡ true → (g ≡ p → ⊥) → is_by_topology (compare_of (set_of g) (set_of p)) ≡ false → Reason own listening (Some g) (Some p) (M3 g.message)

-- our own data against a best message, by whether it ranks below
not-below : (own : InternalDefaultDS) (b : BestAnnounceMessage) → own_below own b ≡ false → (low_by own (compare_d0 (of_own own) (Some b)) ≡ M1 own) × ((p : Option BestAnnounceMessage) → high_by own (compare_d0 (of_own own) (Some b)) p ≡ M2 own)
not-below own b = go (as_ordering (compare_of (of_own own) (set_of b)))
  where
    go : (o : Ordering) → is_less o ≡ false → (low_by own (compared_by o b) ≡ M1 own) × ((p : Option BestAnnounceMessage) → high_by own (compared_by o b) p ≡ M2 own)
    go Less e = absurd (false≢true (sym e))
    go Equal e = (refl, λ p. refl)
    go Greater e = (refl, λ p. refl)

is_below : (own : InternalDefaultDS) (b : BestAnnounceMessage) → own_below own b ≡ true → (low_by own (compare_d0 (of_own own) (Some b)) ≡ P1 b.message) × ((p : Option BestAnnounceMessage) → high_by own (compare_d0 (of_own own) (Some b)) p ≡ against_port b p)
is_below own b = go (as_ordering (compare_of (of_own own) (set_of b)))
  where
    go : (o : Ordering) → is_less o ≡ true → (low_by own (compared_by o b) ≡ P1 b.message) × ((p : Option BestAnnounceMessage) → high_by own (compared_by o b) p ≡ against_port b p)
    go Less e = (refl, λ p. refl)
    go Equal e = absurd (false≢true e)
    go Greater e = absurd (false≢true e)

not_same : (a b : BestAnnounceMessage) → (a ≡ b → ⊥) → same_best a b ≡ false
not_same a b n = go (same_best a b) refl
  where
    go : (t : Bool) → same_best a b ≡ t → t ≡ false
    go true e = absurd (n (same-best-eq a b e))
    go false e = refl

module _ (own : InternalDefaultDS) (listening : Bool) where
  -- a state that has a reason is the one recommended
  pub reason_state : (g p : Option BestAnnounceMessage) (s : RecommendedState) → Reason own listening g p s → state_of own g p listening ≡ s
  unfolding state_of
  reason_state g p s (stay e) = rw e
  reason_state g p s (m1_alone e l) = rw (e, l)
  reason_state g p s (m1_ahead {p = b} l n) = rw l (not-below own b n).0
  reason_state g p s (p1_below {p = b} l h) = rw l (is_below own b h).0
  reason_state g p s (m2_alone e l) = rw (e, l)
  reason_state g p s (m2_ahead {g = b} e l n) = rw (e, l) ((not-below own b n).1 p)
  reason_state g p s (m3_alone {g = b} e l h) = rw (e, l) ((is_below own b h).1 None)
  reason_state g p s (s1_same {g = b} {p = c} l h e) = rw l ((is_below own b h).1 (Some c) ∙ state-same b c (subst (λ x. same_best b x ≡ true) e (same-best-refl b)))
  reason_state g p s (p2_near {g = b} {p = c} l h n t) = rw l ((is_below own b h).1 (Some c) ∙ state-near b c (not_same b c n) t)
  reason_state g p s (m3_far {g = b} {p = c} l h n t) = rw l ((is_below own b h).1 (Some c) ∙ state-far b c (not_same b c n) t)

  -- there is always a reason,
  abbrev Reasoned : Option BestAnnounceMessage → Option BestAnnounceMessage → Type 0
  Reasoned g p = (s : RecommendedState) × Reason own listening g p s

  by : {A : Type 0} (t : Bool) → (t ≡ true → A) → (t ≡ false → A) → A
  by true f g = f refl
  by false f g = g refl

  high : (g p : Option BestAnnounceMessage) → stays listening p ≡ false → low own ≡ false → Reasoned g p
  high None p e l = (M2 own, m2_alone e l)
  high (Some b) None e l = by (own_below own b) (λ h. (M3 b.message, m3_alone e l h)) (λ n. (M2 own, m2_ahead e l n))
  high (Some b) (Some c) e l =
      by (own_below own b)
      (λ h. by (same_best b c) (λ t. (S1 b.message, s1_same l h (same-best-eq b c t)))
      (λ t. by (is_by_topology (compare_of (set_of b) (set_of c))) (λ u. (P2 c.message, p2_near l h (other t) u)) (λ u. (M3 b.message, m3_far l h (other t) u))))
      (λ n. (M2 own, m2_ahead e l n))
    where
      other : same_best b c ≡ false → b ≡ c → ⊥
      other t e = false≢true (sym t ∙ subst (λ x. same_best b x ≡ true) e (same-best-refl b))

  reasoned : (g p : Option BestAnnounceMessage) → Reasoned g p
  reasoned g None = by listening (λ e. (Stay, stay e)) (λ e. by (low own) (λ l. (M1 own, m1_alone e l)) (high g None e))
  reasoned g (Some c) = by (low own) (λ l. by (own_below own c) (λ h. (P1 c.message, p1_below l h)) (λ n. (M1 own, m1_ahead l n))) (high g (Some c) refl)

  -- so the state recommended has one
  pub state_reason : (g p : Option BestAnnounceMessage) → Reason own listening g p (state_of own g p listening)
  state_reason g p = let r = reasoned g p in subst (Reason own listening g p) (sym (reason_state g p r.0 r.1)) r.1
