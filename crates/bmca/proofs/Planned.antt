-- A store's plan: Ebest is the Erbest of the port that received it, so the numbers by candidates are those of the states; and the answers by the plan.
-- Assumes nothing.
use Prim.Native.Nat.{ℕ, zero, suc, ◌+◌, ◌-◌, ◌≤◌, ◌<◌}
use Rattle.std.specs.Prelude.{◌≡◌, Bool, true, false, cond, ltb, get_or, Option, Some, None}
use Rattle.std.proofs.Math.Path.{refl, ap, ap₂}
use Rattle.std.proofs.Common.{sym, ◌∙◌}
use mathlib.Core.List.{List, [], ◌∷◌, ◌++◌}
use native.Mathlib.Omega.{arith}
use Rattle.std.proofs.Math.ListN.{drop}
use Rattle.wire.specs.Flags.{bit}
use Rattle.compare.specs.declared.InternalDefaultDS.{InternalDefaultDS}
use Rattle.choice.specs.declared.BestAnnounceMessage.{BestAnnounceMessage}
use Rattle.choice.specs.Choice.{present, All, AllOf}
use Rattle.choice.specs.Candidate.{whole, stays_by, winner}
use Rattle.choice.proofs.Chosen.{choose_has, all-present}
use Rattle.decision.specs.declared.RecommendedState.{RecommendedState}
use Rattle.decision.specs.State.{state_of}
use Rattle.states.specs.declared.PortAnswer.{PortAnswer}
use Rattle.states.specs.Ports.{keep_found, ebest_of, answers_from, answers_of}
use Rattle.states.proofs.Steps.{keep_all, steps-ebest}
use Rattle.recommend.specs.Number.{shown, number_by, of_port, carrying_best, state_by}
use Rattle.recommend.proofs.Laws.{OfOne, number-shown, state-by}
use Rattle.slot.specs.Blocks.{block}
use Rattle.book.specs.Below.{tab, tab_snoc, tab-ext}
use Rattle.book.specs.Layout.{port_words, port_at, identity}
use Rattle.offers.specs.Offers.{best_at}
use Rattle.bmca.specs.Decide.{blanks, erbest_at}
use Rattle.bmca.proofs.Over.{value-at}
use Rattle.bmca.specs.Plan.{winner_at, winners_of, ebest_in, receiver_of, receiver_in, state_at, number_at, numbers_of, plan_of, erbest_from, source_of, state_in, answer_in, answers_in}

-- ---- Ebest, one port after the other

-- one more Erbest
keep-last : (h : Option BestAnnounceMessage) (os : List (Option BestAnnounceMessage)) (o : Option BestAnnounceMessage) → keep_all h (os ++ (o ∷ [])) ≡ keep_found (keep_all h os) o
unfolding keep_all
keep-last h [] o = refl
keep-last h (p ∷ os) o = keep-last (keep_found h p) os o

pub ebest-next : (n : ℕ) (f : ℕ → Option BestAnnounceMessage) → ebest_of (tab (suc n) f) ≡ keep_found (ebest_of (tab n f)) (f n)
ebest-next n f =
    ap ebest_of (tab_snoc n f)
    ∙ sym (steps-ebest (tab n f ++ (f n ∷ [])))
    ∙ keep-last None (tab n f) (f n)
    ∙ ap (λ (g : Option BestAnnounceMessage). keep_found g (f n)) (steps-ebest (tab n f))

-- the port of a candidate
pub receiver-shown : (o : Option BestAnnounceMessage) → receiver_in (shown o) ≡ receiver_of o
receiver-shown None = refl
receiver-shown (Some b) = refl

-- what holds of each value
all-tab : {A : Type 0} (P : A → Type 0) (n : ℕ) (f : ℕ → A) → ((q : ℕ) → q < n → P (f q)) → All P (tab n f)
all-tab P zero f h = tt
all-tab P (suc n) f h = (h 0 (omega arith), all-tab P n (λ k. f (suc k)) (λ q l. h (suc q) (omega arith)))

module _ (s : List ℕ) where
  -- the winner of a port that is there
  pub winner_in : (q d : ℕ) → q < get_or s 0 0 → get_or (winners_of s) q d ≡ winner_at s q
  unfolding winners_of
  winner_in q d h = value-at (get_or s 0 0) (winner_at s) _ q d h

  -- the Erbest of a port by its number
  pub from-port : (k : ℕ) → (k ≡ 0 → ⊥) → erbest_from s k ≡ erbest_at s (k - 1)
  from-port zero ne = absurd (ne refl)
  from-port (suc q) ne = let e : q ≡ suc q - 1 = omega arith in ap (erbest_at s) e

  -- port q received its Erbest
  received : (q : ℕ) → AllOf (λ v. v.identity.port_number ≡ suc q) (erbest_at s q)
  received q = go (ltb (winner_at s q) (get_or (block s (port_at q) port_words) 1 0))
    where
      go : (t : Bool) → AllOf (λ v. v.identity.port_number ≡ suc q) (cond t (Some (best_at (identity (get_or s 1 0) (1 + q)) (block s (port_at q) port_words) (winner_at s q))) None)
      go true = omega arith
      go false = tt

  -- a best message that is the Erbest of the port that received it
  abbrev Stands : BestAnnounceMessage → Type 0
  Stands w = (erbest_from s w.identity.port_number ≡ Some w) × (w.identity.port_number ≤ get_or s 0 0)

  stands : (q : ℕ) → q < get_or s 0 0 → AllOf Stands (erbest_at s q)
  stands q h = go (erbest_at s q) refl (received q)
    where
      go : (o : Option BestAnnounceMessage) → erbest_at s q ≡ o → AllOf (λ v. v.identity.port_number ≡ suc q) o → AllOf Stands o
      go None e r = tt
      go (Some v) e r = (ap (erbest_from s) r ∙ e, omega (arith, r))

  ebest-stands : AllOf Stands (ebest_in s)
  unfolding ebest_in ebest_of winner
  ebest-stands =
      let os : List (Option BestAnnounceMessage) = tab (get_or s 0 0) (erbest_at s) in
      choose_has Stands (stays_by whole) (present os) (all-present Stands os (all-tab (AllOf Stands) (get_or s 0 0) (erbest_at s) stands))

  -- Ebest is the Erbest of the port that received it,
  pub ebest-from : erbest_from s (receiver_of (ebest_in s)) ≡ ebest_in s
  ebest-from = go (ebest_in s) ebest-stands
    where
      go : (g : Option BestAnnounceMessage) → AllOf Stands g → erbest_from s (receiver_of g) ≡ g
      go None a = refl
      go (Some w) a = a.0

  -- which is there
  pub receiver-there : receiver_of (ebest_in s) ≤ get_or s 0 0
  receiver-there = go (ebest_in s) ebest-stands
    where
      go : (g : Option BestAnnounceMessage) → AllOf Stands g → receiver_of g ≤ get_or s 0 0
      go None a = omega arith
      go (Some w) a = a.1

  -- so it is port q's Erbest if port q received it
  of_one : (q : ℕ) → OfOne (ebest_in s) (erbest_at s q)
  of_one q = go (ebest_in s) ebest-stands (erbest_at s q) refl (received q)
    where
      go : (g : Option BestAnnounceMessage) → AllOf Stands g → (p : Option BestAnnounceMessage) → erbest_at s q ≡ p → AllOf (λ v. v.identity.port_number ≡ suc q) p → OfOne g p
      go None a p e r = tt
      go (Some w) a None e r = tt
      go (Some w) a (Some v) e r = λ t. let both : Some w ≡ Some v = sym a.0 ∙ ap (erbest_from s) (t ∙ r) ∙ e in cc

  -- and the number by candidates is that of the state
  pub number-at : (own : InternalDefaultDS) (listening q : ℕ) → number_by own (shown (ebest_in s)) (shown (erbest_at s q)) (bit listening q) ≡ number_at s own listening q
  number-at own listening q = number-shown own (bit listening q) (ebest_in s) (erbest_at s q) (of_one q)

  -- ---- the answers

  -- the port of the message that a state carries is there
  pub source-there : (n q : ℕ) → q < get_or s 0 0 → source_of n (receiver_of (ebest_in s)) q ≤ get_or s 0 0
  source-there n q h = go (of_port n)
    where
      go : (t : Bool) → cond t (suc q) (receiver_of (ebest_in s)) ≤ get_or s 0 0
      go true = h
      go false = receiver-there

  -- the message that a state carries, by the number of its port
  pub carried_from : (n q : ℕ) → carrying_best n (erbest_from s (source_of n (receiver_of (ebest_in s)) q)) ≡ carrying_best n (cond (of_port n) (erbest_at s q) (ebest_in s))
  carried_from n q = go (of_port n)
    where
      go : (t : Bool) → carrying_best n (erbest_from s (cond t (suc q) (receiver_of (ebest_in s)))) ≡ carrying_best n (cond t (erbest_at s q) (ebest_in s))
      go true = refl
      go false = ap (carrying_best n) ebest-from

  module _ (own : InternalDefaultDS) (listening : ℕ) where
    -- The state of a port by the store's plan is the state of the decision.
    pub state_planned : (q : ℕ) → q < get_or s 0 0 → state_in s own (plan_of s own listening) q ≡ state_at s own listening q
    unfolding numbers_of
    state_planned q h =
        ap (λ (n : ℕ). state_by n own (ebest_in s) (erbest_at s q)) (value-at (get_or s 0 0) (number_at s own listening) _ q 0 h)
        ∙ state-by own (bit listening q) (ebest_in s) (erbest_at s q)

    -- the answer of the port after k
    abbrev answer : Option BestAnnounceMessage → Option BestAnnounceMessage → ℕ → PortAnswer
    answer g p k = record { port_number = suc k; state = state_of own g p (bit listening k) }

    answers-tab : (g : Option BestAnnounceMessage) (n k : ℕ) (f : ℕ → Option BestAnnounceMessage) → tab n (λ q. answer g (f q) (k + q)) ≡ answers_from own g listening k (tab n f)
    unfolding answers_from
    answers-tab g zero k f = refl
    answers-tab g (suc n) k f =
        let first : k + 0 ≡ k = omega arith in
        ap₂ ◌∷◌ (ap (answer g (f 0)) first)
        (tab-ext n _ (λ q. answer g (f (suc q)) (suc k + q)) (λ q l. ap (answer g (f (suc q))) (shift q)) ∙ answers-tab g n (suc k) (λ q. f (suc q)))
      where
        shift : (q : ℕ) → k + suc q ≡ suc k + q
        shift q = omega arith

    -- The answers by the store's plan are those of the decision, over blank ones.
    pub answers_planned : answers_in s own (plan_of s own listening) ≡ answers_of own listening (tab (get_or s 0 0) (erbest_at s)) ++ drop (get_or s 0 0) blanks
    unfolding answers_in ebest_in
    answers_planned =
        ap (λ (l : List PortAnswer). l ++ drop (get_or s 0 0) blanks)
        (tab-ext (get_or s 0 0) (answer_in s own (plan_of s own listening)) (λ q. answer (ebest_in s) (erbest_at s q) (0 + q))
        (λ q h. ap (λ (t : RecommendedState). record { port_number = suc q; state = t }) (state_planned q h) ∙ ap (answer (ebest_in s) (erbest_at s q)) (start q))
        ∙ answers-tab (ebest_in s) (get_or s 0 0) 0 (erbest_at s))
      where
        start : (q : ℕ) → q ≡ 0 + q
        start q = omega arith
