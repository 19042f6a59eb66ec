-- Demand 3 of the state decision: to which port S1 is recommended, with or without the agreement.
-- Assumes nothing.
use Rattle.std.specs.Prelude.{◌≡◌, Bool, not, ◌&&◌, ℕ, suc, ◌≤◌, ◌<◌, ◌+◌, eqb, length, Option, Some, None, is_none}
use Rattle.std.proofs.Math.Path.{refl, sym, ap}
use Rattle.std.proofs.Common.{ap₂, subst, ◌∙◌, arith}
use Rattle.std.proofs.Math.Bool.{true, false, cond}
use mathlib.Core.List.Memᴰ
use mathlib.Core.List.{List, [], ◌∷◌, Memᴰ}
use Rattle.std.proofs.lemmas.Option.{none-some, same_Some}
use Rattle.std.proofs.Math.Decide.{ℕ_discrete}
use borrow.Author.Tests.{eq-eqb, ne_eqb}
use Rattle.compare.specs.declared.InternalDefaultDS.{InternalDefaultDS}
use Rattle.choice.specs.declared.BestAnnounceMessage.{BestAnnounceMessage}
use Rattle.choice.specs.Choice.{choose, joined, present, AllOf}
use Rattle.choice.specs.Candidate.{whole, stays_by, winner, erbests, ebest}
use Rattle.choice.proofs.Chosen.{all_in, choose_has}
use Rattle.decision.specs.declared.RecommendedState.{RecommendedState}
use Rattle.decision.specs.State.{low, state_of}
use Rattle.decision.proofs.Reasons.{own_below, Reason, stay, m1_alone, m1_ahead, p1_below, m2_alone, m2_ahead, m3_alone, s1_same, p2_near, m3_far, state_reason}
use Rattle.states.specs.Ports.{ebest_of, answers_from, answers_of, decision_of}
use Rattle.states.specs.Slave.{is_s1, recommends_s1, slave_port, is_port, flags_from, ones, Ported, Owned, flags, Received, is_empty}

-- One port, number n: what it received bears that number, and if the winner bears it, it is this port's Erbest.
module _ (own : InternalDefaultDS) (l : Bool) (n : ℕ) where
  abbrev Own : Option BestAnnounceMessage → Option BestAnnounceMessage → Type 0
  Own g p = AllOf (λ v. v.identity.port_number ≡ n) p × AllOf (λ w. w.identity.port_number ≡ n → p ≡ Some w) g

  -- not here: the winner was received elsewhere, or S1 is not recommended at all
  elsewhere : (w : BestAnnounceMessage) → (w.identity.port_number ≡ n → ⊥) → is_port n (slave_port own (Some w)) ≡ false
  unfolding slave_port
  elsewhere w d = go (recommends_s1 own (Some w))
    where
      go : (t : Bool) → is_port n (cond t (Some w.identity.port_number) None) ≡ false
      go true = ne_eqb w.identity.port_number n d
      go false = refl

  nowhere : (g : Option BestAnnounceMessage) → recommends_s1 own g ≡ false → is_port n (slave_port own g) ≡ false
  unfolding slave_port
  nowhere None e = refl
  nowhere (Some w) e = rw e

  low-nowhere : (g : Option BestAnnounceMessage) → low own ≡ true → is_port n (slave_port own g) ≡ false
  unfolding recommends_s1
  low-nowhere None e = nowhere None refl
  low-nowhere (Some w) e = nowhere (Some w) (rw e)

  here : (w : BestAnnounceMessage) → low own ≡ false → own_below own w ≡ true → w.identity.port_number ≡ n → is_port n (slave_port own (Some w)) ≡ true
  unfolding slave_port recommends_s1
  here w e f r = rw (e, f) (eq-eqb w.identity.port_number n r)

  none_here : (g : Option BestAnnounceMessage) → Own g None → is_port n (slave_port own g) ≡ false
  unfolding recommends_s1
  none_here None o = nowhere None refl
  none_here (Some w) o = elsewhere w (λ e. none-some w (o.1 e))

  reason_s1 : (g p : Option BestAnnounceMessage) (s : RecommendedState) → Own g p → Reason own l g p s → is_s1 s ≡ is_port n (slave_port own g)
  unfolding recommends_s1
  reason_s1 g p s o (stay e) = sym (none_here g o)
  reason_s1 g p s o (m1_alone e h) = sym (low-nowhere g h)
  reason_s1 g p s o (m1_ahead h k) = sym (low-nowhere g h)
  reason_s1 g p s o (p1_below h k) = sym (low-nowhere g h)
  reason_s1 g p s o (m2_alone e h) = sym (nowhere None refl)
  reason_s1 g p s o (m2_ahead {g = w} e h k) = sym (nowhere (Some w) (rw (h, k)))
  reason_s1 g p s o (m3_alone {g = w} e h k) = sym (none_here (Some w) o)
  reason_s1 g p s o (s1_same {g = w} {p = v} h k e) = sym (here w h k (ap (λ (b : BestAnnounceMessage). b.identity.port_number) e ∙ o.0))
  reason_s1 g p s o (p2_near {g = w} {p = v} h k d t) = sym (elsewhere w (λ e. d (sym (same_Some v w (o.1 e)))))
  reason_s1 g p s o (m3_far {g = w} {p = v} h k d t) = sym (elsewhere w (λ e. d (sym (same_Some v w (o.1 e)))))

  port_s1 : (g p : Option BestAnnounceMessage) → Own g p → is_s1 (state_of own g p l) ≡ is_port n (slave_port own g)
  port_s1 g p o = reason_s1 g p (state_of own g p l) o (state_reason own l g p)

module _ (w : BestAnnounceMessage) where
  within : (k : ℕ) (os : List (Option BestAnnounceMessage)) → Ported k os → Memᴰ w (present os) → (k ≤ w.identity.port_number) × (w.identity.port_number < k + length os)
  within k [] r m = absurd (Memᴰ.not-nil m)
  within k (None ∷ os) r m = let h = within (suc k) os r.1 m in (omega arith, omega arith)
  within k (Some v ∷ os) r (Memᴰ.head e) = let h : w.identity.port_number ≡ k = ap (λ (b : BestAnnounceMessage). b.identity.port_number) e ∙ r.0 in (omega arith, omega arith)
  within k (Some v ∷ os) r (Memᴰ.tail m) = let h = within (suc k) os r.1 m in (omega arith, omega arith)

  owned-past : (k : ℕ) (os : List (Option BestAnnounceMessage)) → w.identity.port_number < k → Owned w k os
  owned-past k [] h = tt
  owned-past k (o ∷ os) h = (λ e. absurd (omega arith), owned-past (suc k) os (omega arith))

  owned : (k : ℕ) (os : List (Option BestAnnounceMessage)) → Ported k os → Memᴰ w (present os) → Owned w k os
  owned k [] r m = tt
  owned k (None ∷ os) r m = let h = within (suc k) os r.1 m in (λ e. absurd (omega arith), owned (suc k) os r.1 m)
  owned k (Some v ∷ os) r (Memᴰ.head e) = (λ h. ap Some (sym e), owned-past (suc k) os (subst (λ (b : BestAnnounceMessage). b.identity.port_number < suc k) (sym e) (omega (arith, r.0))))
  owned k (Some v ∷ os) r (Memᴰ.tail m) = let h = within (suc k) os r.1 m in (λ e. absurd (omega arith), owned (suc k) os r.1 m)

all_of : {A : Type 0} (P Q : A → Type 0) → ((a : A) → P a → Q a) → (o : Option A) → AllOf P o → AllOf Q o
all_of P Q f None p = tt
all_of P Q f (Some a) p = f a p

answers_s1 :
    (own : InternalDefaultDS) (listening : ℕ) (g : Option BestAnnounceMessage) (k : ℕ) (os : List (Option BestAnnounceMessage)) → Ported (suc k) os → AllOf (λ w. Owned w (suc k) os) g
    → flags (answers_from own g listening k os) ≡ flags_from (slave_port own g) (suc k) os
unfolding answers_from flags_from
answers_s1 own listening g k [] r o = refl
answers_s1 own listening g k (p ∷ ps) r o =
    ap₂ ◌∷◌ (port_s1 own _ (suc k) g p (r.0, all_of (λ w. Owned w (suc k) (p ∷ ps)) (λ w. w.identity.port_number ≡ suc k → p ≡ Some w) (λ w q. q.0) g o))
    (answers_s1 own listening g (suc k) ps r.1 (all_of (λ w. Owned w (suc k) (p ∷ ps)) (λ w. Owned w (suc (suc k)) ps) (λ w q. q.1) g o))

-- the winner is the Erbest of a port
ebest-in : (os : List (Option BestAnnounceMessage)) → AllOf (λ w. Memᴰ w (present os)) (ebest_of os)
unfolding ebest_of winner
ebest-in os = choose_has (λ w. Memᴰ w (present os)) (stays_by whole) (present os) (all_in (present os) (λ w m. m))

-- one flag is set if the port is among them, and none if not
ones_none : {A : Type 0} (k : ℕ) (xs : List A) → ones (flags_from None k xs) ≡ 0
unfolding ones flags_from
ones_none k [] = refl
ones_none k (x ∷ xs) = ones_none (suc k) xs

ones-past : {A : Type 0} (n k : ℕ) (xs : List A) → n < k → ones (flags_from (Some n) k xs) ≡ 0
unfolding ones flags_from
ones-past n k [] h = refl
ones-past n k (x ∷ xs) h = rw (ne_eqb n k (omega arith)) (ones-past n (suc k) xs (omega arith))

ones-one : {A : Type 0} (n k : ℕ) (xs : List A) → k ≤ n → n < k + length xs → ones (flags_from (Some n) k xs) ≡ 1
unfolding ones flags_from
ones-one n k [] h h' = absurd (omega arith)
ones-one n k (x ∷ xs) h h' = go (λ a. ones-one n (suc k) xs a (omega arith)) (ℕ_discrete n k)
  where
    go : (suc k ≤ n → ones (flags_from (Some n) (suc k) xs) ≡ 1) → Dec (n ≡ k) → ones (eqb n k ∷ flags_from (Some n) (suc k) xs) ≡ 1
    go later (yes e) = rw (eq-eqb n k e, ones-past n (suc k) xs (omega arith))
    go later (no e) = rw (ne_eqb n k e) (later (omega arith))

module _ (own : InternalDefaultDS) (listening : ℕ) (os : List (Option BestAnnounceMessage)) (r : Ported 1 os) where
  -- S1 is recommended to the port that received the winner, and to no other port,
  pub s1_flags : flags (answers_of own listening os) ≡ flags_from (slave_port own (ebest_of os)) 1 os
  s1_flags = answers_s1 own listening (ebest_of os) 0 os r (all_of (λ w. Memᴰ w (present os)) (λ w. Owned w 1 os) (λ w m. owned w 1 os r m) (ebest_of os) (ebest-in os))

  -- so to exactly one port under the three conditions, and else to none.
  pub s1_count : ones (flags (answers_of own listening os)) ≡ cond (recommends_s1 own (ebest_of os)) 1 0
  unfolding slave_port recommends_s1
  s1_count = ap ones s1_flags ∙ go (ebest_of os) (ebest-in os)
    where
      reach : (w : BestAnnounceMessage) → Memᴰ w (present os) → (t : Bool) → ones (flags_from (cond t (Some w.identity.port_number) None) 1 os) ≡ cond t 1 0
      reach w m true = let b = within w 1 os r m in ones-one w.identity.port_number 1 os b.0 b.1
      reach w m false = ones_none 1 os

      go : (g : Option BestAnnounceMessage) → AllOf (λ w. Memᴰ w (present os)) g → ones (flags_from (slave_port own g) 1 os) ≡ cond (recommends_s1 own g) 1 0
      go None m = ones_none 1 os
      go (Some w) m = reach w m (not (low own) && own_below own w)

ported : (k : ℕ) (ports : List (List BestAnnounceMessage)) → Received k ports → Ported k (erbests whole ports)
unfolding erbests winner
ported k [] r = tt
ported k (bs ∷ ports) r = (choose_has (λ b. b.identity.port_number ≡ k) (stays_by whole) bs r.0, ported (suc k) ports r.1)

-- There is a winner exactly when some port has a candidate.
pub winner-there : (ports : List (List BestAnnounceMessage)) → is_none (ebest whole ports) ≡ is_empty (joined ports)
unfolding ebest erbests winner choose
winner-there [] = refl
winner-there ([] ∷ ports) = winner-there ports
winner-there ((b ∷ bs) ∷ ports) = refl

-- So of a decision by the candidates of the ports: S1 goes to exactly one port, the receiver of the winner, when our class lies
-- outside 1 to 127, some port has a candidate and our own data ranks below the winner; else to none.
module _ (own : InternalDefaultDS) (listening : ℕ) (ports : List (List BestAnnounceMessage)) (r : Received 1 ports) where
  pub decision-flags : flags (decision_of own listening ports) ≡ flags_from (slave_port own (ebest whole ports)) 1 (erbests whole ports)
  unfolding ebest ebest_of
  decision-flags = s1_flags own listening (erbests whole ports) (ported 1 ports r)

  pub decision-count : ones (flags (decision_of own listening ports)) ≡ cond (recommends_s1 own (ebest whole ports)) 1 0
  unfolding ebest ebest_of
  decision-count = s1_count own listening (erbests whole ports) (ported 1 ports r)
