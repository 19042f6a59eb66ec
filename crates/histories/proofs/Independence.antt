-- A port of a book is that port alone: over any history its lists, registration answers, Erbests and tallies are those of the port by
-- itself, given the site, its number, its interval and the calls that are something to it; its state reads own data, its bit and Ebest.
-- Assumes nothing.
use Rattle.std.specs.Prelude.{◌≡◌, Bool, cond, ◌⊎◌, ℕ, zero, suc, ◌+◌, ◌≤◌, ◌<◌, length}
use Rattle.std.proofs.Math.Path.{refl, ap}
use Rattle.std.proofs.Common.{sym, ap₂, ◌∙◌, inl, inr, add-zero, zero-add, add-suc, suc-add, arith, eq-eqb, ne_eqb, lt-ltb, le-ltb}
use mathlib.Core.List.{List, [], ◌∷◌, map}
use Rattle.std.specs.Prelude as rust
use Rattle.std.proofs.Math.Option
use Rattle.std.proofs.Math.Option.{Option, some, some-injective, none-ne-some}
use Rattle.std.proofs.Math.ListN.{get_elem?}
use Rattle.wire.specs.Flags.{bit}
use Rattle.compare.specs.declared.InternalDefaultDS.{InternalDefaultDS}
use Rattle.choice.specs.declared.BestAnnounceMessage.{BestAnnounceMessage}
use Rattle.decision.specs.State.{state_of}
use Rattle.states.specs.Ports.{ebest_of, answers_from}
use Rattle.history.specs.Rules.{step_max}
use Rattle.history.specs.Port.{Reads, Site, Port, Turn, Frame, PortCall, idle, hear, pass, judge, turn}
use Rattle.history.specs.Book.{Book, Call, register, age, decide, fresh_port, fresh_book, share, answer_from, number, states_of, turns_from, turns, after}
use Rattle.histories.specs.History.{Event, Since, since, begun, noted, mine, run_all, run, reports, port_turns, port_run}
use Rattle.histories.proofs.Moments.{since-run}

pub nth-map : {A B : Type 0} (f : A → B) (xs : List A) (i : ℕ) → get_elem? (map f xs) i ≡ Option.map f (get_elem? xs i)
nth-map f [] i = refl
nth-map f (x ∷ xs) zero = refl
nth-map f (x ∷ xs) (suc i) = nth-map f xs i

-- ---- a port and its reports

module _ {A : Type 0} (R : Reads A) where
  -- port k + i, where the first has number k
  nth-turns : (S : Site) (k : ℕ) (c : Call A) (Ps : List (Port A)) (i : ℕ)
      → get_elem? (turns_from R S k c Ps) i ≡ Option.map (turn R S (k + i) (share (k + i) c)) (get_elem? Ps i)
  nth-turns S k c [] i = refl
  nth-turns S k c (P ∷ Ps) zero = ap (λ (n : ℕ). some (turn R S n (share n c) P)) (sym (add-zero k))
  nth-turns S k c (P ∷ Ps) (suc i) =
      nth-turns S (suc k) c Ps i
      ∙ ap (λ (n : ℕ). Option.map (turn R S n (share n c)) (get_elem? Ps i)) (suc-add k i ∙ sym (add-suc k i))

  module _ (i : ℕ) where
    -- one call: what it does to port 1 + i, and the port after it
    pub turn_alone : (c : Call A) (B : Book A) (P : Port A) → get_elem? B.ports i ≡ some P
        → get_elem? (turns R c B) i ≡ some (turn R B.site (1 + i) (share (1 + i) c) P)
    unfolding turns
    turn_alone c B P e = nth-turns B.site 1 c B.ports i ∙ ap (Option.map (turn R B.site (1 + i) (share (1 + i) c))) e

    pub port-alone : (c : Call A) (B : Book A) (P : Port A) → get_elem? B.ports i ≡ some P
        → get_elem? (after R c B).ports i ≡ some (turn R B.site (1 + i) (share (1 + i) c) P).port
    unfolding after
    port-alone c B P e = nth-map (λ (T : Turn A). T.port) (turns R c B) i ∙ ap (Option.map (λ (T : Turn A). T.port)) (turn_alone c B P e)

    -- what is noted of one call and the rest, for a port alone
    module _ (S : Site) (P : Port A) where
      run-noted : (c : PortCall A) (cs : List (PortCall A)) → port_run R S (1 + i) P (noted c c cs) ≡ port_run R S (1 + i) (turn R S (1 + i) c P).port cs
      run-noted idle cs = refl
      run-noted (hear f) cs = refl
      run-noted (pass step) cs = refl
      run-noted judge cs = refl

      turns-noted : (c : PortCall A) (cs : List (PortCall A)) (o : Option (Turn A)) (os : List (Option (Turn A)))
          → o ≡ some (turn R S (1 + i) c P)
          → os ≡ map some (port_turns R S (1 + i) (turn R S (1 + i) c P).port cs)
          → noted c o os ≡ map some (port_turns R S (1 + i) P (noted c c cs))
      turns-noted idle cs o os e r = r
      turns-noted (hear f) cs o os e r = ap₂ ◌∷◌ e r
      turns-noted (pass step) cs o os e r = ap₂ ◌∷◌ e r
      turns-noted judge cs o os e r = ap₂ ◌∷◌ e r

    -- several calls: the port at the end, and its reports on the way
    pub run_alone : (B : Book A) (P : Port A) (cs : List (Call A)) → get_elem? B.ports i ≡ some P
        → get_elem? (run R B cs).ports i ≡ some (port_run R B.site (1 + i) P (mine (1 + i) cs))
    unfolding after
    run_alone B P [] e = e
    run_alone B P (c ∷ cs) e =
        run_alone (after R c B) (turn R B.site (1 + i) (share (1 + i) c) P).port cs (port-alone c B P e)
        ∙ ap some (sym (run-noted B.site P (share (1 + i) c) (mine (1 + i) cs)))

    pub reports-alone : (B : Book A) (P : Port A) (cs : List (Call A)) → get_elem? B.ports i ≡ some P
        → reports R i B cs ≡ map some (port_turns R B.site (1 + i) P (mine (1 + i) cs))
    unfolding after
    reports-alone B P [] e = refl
    reports-alone B P (c ∷ cs) e =
        turns-noted B.site P (share (1 + i) c) (mine (1 + i) cs) (get_elem? (turns R c B) i) (reports R i (after R c B) cs) (turn_alone c B P e)
        (reports-alone (after R c B) (turn R B.site (1 + i) (share (1 + i) c) P).port cs (port-alone c B P e))

    -- a port of a fresh book
    pub fresh-alone : (S : Site) (ns : List ℕ) (n : ℕ) → get_elem? ns i ≡ some n → get_elem? (fresh_book {A = A} S ns).ports i ≡ some (fresh_port n)
    fresh-alone S ns n e = nth-map fresh_port ns i ∙ ap (Option.map fresh_port) e

    -- Two stretches from fresh starts that agree on the site, the port's interval and the calls that are something to it,
    -- whatever the other ports are and hear.
    pub independent : (S : Site) (ns ms : List ℕ) (n : ℕ) (cs ds : List (Call A)) → get_elem? ns i ≡ some n → get_elem? ms i ≡ some n → mine (1 + i) cs ≡ mine (1 + i) ds
        → (get_elem? (run R (fresh_book S ns) cs).ports i ≡ get_elem? (run R (fresh_book S ms) ds).ports i)
        × (reports R i (fresh_book S ns) cs ≡ reports R i (fresh_book S ms) ds)
    independent S ns ms n cs ds e f h =
        let p = fresh-alone S ns n e in
        let q = fresh-alone S ms n f in (
          run_alone (fresh_book S ns) (fresh_port n) cs p
              ∙ ap (λ (l : List (PortCall A)). some (port_run R S (1 + i) (fresh_port n) l)) h
              ∙ sym (run_alone (fresh_book S ms) (fresh_port n) ds q),
          reports-alone (fresh_book S ns) (fresh_port n) cs p
              ∙ ap (λ (l : List (PortCall A)). map some (port_turns R S (1 + i) (fresh_port n) l)) h
              ∙ sym (reports-alone (fresh_book S ms) (fresh_port n) ds q),
        )

    -- Two histories, whatever lay there before: as the stretches since the last fresh start of each.
    pub histories_independent : (B D : Book A) (es ds : List (Event A)) (s t : Since A) (n : ℕ) → since es ≡ some s → since ds ≡ some t
        → s.site ≡ t.site → get_elem? s.intervals i ≡ some n → get_elem? t.intervals i ≡ some n → mine (1 + i) s.calls ≡ mine (1 + i) t.calls
        → (get_elem? (run_all R B es).ports i ≡ get_elem? (run_all R D ds).ports i)
        × (reports R i (begun s) s.calls ≡ reports R i (begun t) t.calls)
    histories_independent B D es ds s t n e f same p q h =
        let u = independent s.site s.intervals t.intervals n s.calls t.calls p q h in
        let port : Book A → Option (Port A) = λ B. get_elem? B.ports i in (
          ap port (since-run R B es s e).book
              ∙ u.0
              ∙ ap (λ (S : Site). port (run R (fresh_book S t.intervals) t.calls)) same
              ∙ sym (ap port (since-run R D ds t f).book),
          u.1 ∙ ap (λ (S : Site). reports R i (fresh_book S t.intervals) t.calls) same,
        )

-- What a call adds to the calls that are something to port k: a frame to that port alone, ageing and a decision to every port.
module _ {A : Type 0} (k : ℕ) (cs : List (Call A)) where
  pub mine-own : (f : Frame A) → mine k (register k f ∷ cs) ≡ hear f ∷ mine k cs
  mine-own f = rw (eq-eqb k k refl)

  pub mine-other : (q : ℕ) (f : Frame A) → (q ≡ k → ⊥) → mine k (register q f ∷ cs) ≡ mine k cs
  mine-other q f n = rw (ne_eqb q k n)

  pub mine-age : (step : ℕ) → step < step_max → mine k (age step ∷ cs) ≡ pass step ∷ mine k cs
  mine-age step h = rw (lt-ltb step step_max h)

  pub mine-refused : (step : ℕ) → step_max ≤ step → mine k (age step ∷ cs) ≡ mine k cs
  mine-refused step h = rw (le-ltb step step_max h)

  pub mine-decide : (own : InternalDefaultDS) (listening : ℕ) → mine k (decide own listening ∷ cs) ≡ judge ∷ mine k cs
  mine-decide own listening = refl

-- ---- the number of a registration

module _ {A : Type 0} where
  answer_at : (k i : ℕ) (Ts : List (Turn A)) (T : Turn A) → get_elem? Ts i ≡ some T → answer_from k (k + i) Ts ≡ T.answer
  answer_at k i [] T e = absurd (none-ne-some T e)
  answer_at k zero (U ∷ Ts) T e = rw (eq-eqb (k + 0) k (add-zero k)) (ap (λ (T : Turn A). T.answer) (some-injective U T e))
  answer_at k (suc i) (U ∷ Ts) T e =
      rw (ne_eqb (k + suc i) k (λ q. omega arith)) (ap (λ (n : ℕ). answer_from (suc k) n Ts) (add-suc k i ∙ sym (suc-add k i)) ∙ answer_at (suc k) i Ts T e)

  answer-none : (k q : ℕ) (Ts : List (Turn A)) → (q < k) ⊎ (k + length Ts ≤ q) → answer_from k q Ts ≡ 6
  answer-none k q [] h = refl
  answer-none k q (T ∷ Ts) (inl h) = rw (ne_eqb q k (λ e. omega arith)) (answer-none (suc k) q Ts (inl (omega arith)))
  answer-none k q (T ∷ Ts) (inr h) = rw (ne_eqb q k (λ e. omega arith)) (answer-none (suc k) q Ts (inr (omega arith)))

module _ {A : Type 0} (R : Reads A) (f : Frame A) (B : Book A) where
  -- it is the answer of that port,
  pub number-alone : (i : ℕ) (P : Port A) → get_elem? B.ports i ≡ some P
      → number (register (1 + i) f) (turns R (register (1 + i) f) B) ≡ (turn R B.site (1 + i) (hear f) P).answer
  unfolding number
  number-alone i P e =
      let c = register (1 + i) f in
      answer_at 1 i (turns R c B) (turn R B.site (1 + i) (share (1 + i) c) P) (turn_alone R i c B P e)
      ∙ ap (λ (b : Bool). (turn R B.site (1 + i) (cond b (hear f) idle) P).answer) (eq-eqb (1 + i) (1 + i) refl)

  length-turns : (c : Call A) (k : ℕ) (Ps : List (Port A)) → length (turns_from R B.site k c Ps) ≡ length Ps
  length-turns c k [] = refl
  length-turns c k (P ∷ Ps) = ap suc (length-turns c (suc k) Ps)

  -- and 6 where there is no such port
  pub number-none : (q : ℕ) → (q < 1) ⊎ (1 + length B.ports ≤ q) → number (register q f) (turns R (register q f) B) ≡ 6
  unfolding number turns
  number-none q h = answer-none 1 q (turns R (register q f) B) (rw (length-turns (register q f) 1 B.ports) h)

-- ---- the recommended state

nth-answers : (own : InternalDefaultDS) (g : rust.Option BestAnnounceMessage) (listening k : ℕ) (ps : List (rust.Option BestAnnounceMessage)) (i : ℕ)
    → get_elem? (answers_from own g listening k ps) i
    ≡ Option.map (λ p. record { port_number = suc (k + i); state = state_of own g p (bit listening (k + i)) }) (get_elem? ps i)
unfolding answers_from
nth-answers own g listening k [] i = refl
nth-answers own g listening k (p ∷ ps) zero =
    ap (λ (n : ℕ). some (record { port_number = suc n; state = state_of own g p (bit listening n) })) (sym (add-zero k))
nth-answers own g listening k (p ∷ ps) (suc i) =
    nth-answers own g listening (suc k) ps i
    ∙ ap (λ (n : ℕ). Option.map (λ p. record { port_number = suc n; state = state_of own g p (bit listening n) }) (get_elem? ps i)) (suc-add k i ∙ sym (add-suc k i))

-- it reads own data, Ebest, the port's Erbest and its bit
pub state-alone : {A : Type 0} (own : InternalDefaultDS) (listening : ℕ) (Ts : List (Turn A)) (T : Turn A) (i : ℕ) → get_elem? Ts i ≡ some T
    → get_elem? (states_of own listening Ts) i
    ≡ some (record { port_number = suc i; state = state_of own (ebest_of (map (λ (T : Turn A). T.best) Ts)) T.best (bit listening i) })
state-alone {A = A} own listening Ts T i e =
    let bests = map (λ (T : Turn A). T.best) Ts in
    let g = ebest_of bests in
    nth-answers own g listening 0 bests i
    ∙ ap (λ (n : ℕ). Option.map (λ p. record { port_number = suc n; state = state_of own g p (bit listening n) }) (get_elem? bests i)) (zero-add i)
    ∙ ap (Option.map (λ p. record { port_number = suc i; state = state_of own g p (bit listening i) }))
    (nth-map (λ (T : Turn A). T.best) Ts i ∙ ap (Option.map (λ (T : Turn A). T.best)) e)
