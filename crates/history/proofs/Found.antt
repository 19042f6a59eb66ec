-- An accepted message is found at the end of its sender's list, and nothing else changes; a refused call changes nothing.
-- Assumes nothing.
use Rattle.std.specs.Prelude.{◌≡◌, Bool, false, ℕ, suc, ◌+◌, ◌<◌, ltb, eqb, length, drop}
use Rattle.std.proofs.Math.Path.{refl, sym, ap}
use Rattle.std.proofs.Common.{ap₂, subst, ◌∙◌, arith, eqb-true, ne_eqb}
use Rattle.std.proofs.Math.Bool.{cond}
use mathlib.Core.List.{List, [], ◌∷◌, ◌++◌, map}
use Rattle.header.specs.declared.PortIdentity.{PortIdentity}
use Rattle.same.specs.Same.{same_port, same-port-eq, same-port-refl}
use Rattle.history.specs.Rules.{messages_max, step_max}
use Rattle.history.specs.Port.{Reads, sender, Master, Port, Site, Turn, push, list_of, admit, with, taking, unchanged, refusal, register_port, Frame, bad, announce, idle, hear, pass, hearing, turn}
use Rattle.history.specs.Book.{Book, Call, register, age, decide, answer_from, number, turns_from, turns, after}
use Rattle.history.proofs.Tests.{by}

-- ---- a port

module _ {A : Type 0} where
  -- a list without the message that a new one puts out
  unfoldable pub stayed : List A → List A
  stayed ms = cond (ltb (length ms) messages_max) ms (drop 1 ms)

  push-end : (ms : List A) (m : A) → push ms m ≡ stayed ms ++ (m ∷ [])
  unfolding push stayed
  push-end ms m = by (λ b. cond b (ms ++ (m ∷ [])) (drop 1 ms ++ (m ∷ [])) ≡ cond b ms (drop 1 ms) ++ (m ∷ [])) (ltb (length ms) messages_max) (λ t. refl) (λ t. refl)

module _ {A : Type 0} (src : PortIdentity) (m : A) where
  -- its sender's list
  admit-own : (Ms : List (Master A)) → list_of src (admit src m Ms) ≡ push (list_of src Ms) m
  unfolding push
  admit-own [] = ap (λ b. cond b (m ∷ []) []) (same-port-refl src)
  admit-own (M ∷ Ms) =
      by (λ b. list_of src (cond b (with M (push M.messages m) ∷ Ms) (M ∷ admit src m Ms)) ≡ push (cond b M.messages (list_of src Ms)) m)
      (same_port M.source src)
      (λ y. ap (λ b. cond b (push M.messages m) (list_of src Ms)) y)
      (λ y. ap (λ b. cond b M.messages (list_of src (admit src m Ms))) y ∙ admit-own Ms)

  -- another's
  admit-other : (other : PortIdentity) → same_port src other ≡ false → (Ms : List (Master A)) → list_of other (admit src m Ms) ≡ list_of other Ms
  admit-other other d [] = ap (λ b. cond b (m ∷ []) []) d
  admit-other other d (M ∷ Ms) =
      let there = list_of other Ms in
      by (λ b. list_of other (cond b (with M (push M.messages m) ∷ Ms) (M ∷ admit src m Ms)) ≡ cond (same_port M.source other) M.messages there)
      (same_port M.source src)
      (λ y.
      let e : same_port M.source other ≡ false = ap (λ x. same_port x other) (same-port-eq M.source src y) ∙ d in
      ap (λ b. cond b (push M.messages m) there) e ∙ sym (ap (λ b. cond b M.messages there) e))
      (λ y. ap (λ l. cond (same_port M.source other) M.messages l) (admit-other other d Ms))

module _ {A : Type 0} (R : Reads A) where
  -- port P with a message, as port Q: it ends its sender's list, the others' lists are as they were
  pub record Found (m : A) (P Q : Port A) : Type 0 where
    pub own : list_of (sender R m) Q.masters ≡ stayed (list_of (sender R m) P.masters) ++ (R.aged m 0 ∷ [])
    pub others : (src : PortIdentity) → same_port (sender R m) src ≡ false → list_of src Q.masters ≡ list_of src P.masters
    pub interval : Q.interval ≡ P.interval

  taking-found : (m : A) (P : Port A) → Found m P (taking R m P).port
  taking-found m P =
      let src = sender R m in
      record {
        own = admit-own src (R.aged m 0) P.masters ∙ push-end (list_of src P.masters) (R.aged m 0);
        others = λ other d. admit-other src (R.aged m 0) other d P.masters;
        interval = refl;
      }

  -- the answer of a port is the refusal
  pub register-answer : (S : Site) (k : ℕ) (m : A) (P : Port A) → (register_port R S k m P).answer ≡ refusal R S k m P
  unfolding register_port
  register-answer S k m P =
      by (λ b. (cond b (taking R m P) (unchanged (refusal R S k m P) P)).answer ≡ refusal R S k m P) (eqb (refusal R S k m P) 0)
      (λ t. sym (eqb-true (refusal R S k m P) 0 t)) (λ t. refl)

  register-taken : (S : Site) (k : ℕ) (m : A) (P : Port A) → refusal R S k m P ≡ 0 → register_port R S k m P ≡ taking R m P
  unfolding register_port
  register-taken S k m P e = ap (λ r. cond (eqb r 0) (taking R m P) (unchanged r P)) e

  -- an accepted message is found
  pub port-found : (S : Site) (k : ℕ) (m : A) (P : Port A) → refusal R S k m P ≡ 0 → Found m P (turn R S k (hear (announce m)) P).port
  port-found S k m P e = subst (λ T. Found m P T.port) (sym (register-taken S k m P e)) (taking-found m P)

  -- a port that answers another number than 0 is as it was
  hearing-refused : (S : Site) (k : ℕ) (f : Frame A) (P : Port A) → ((hearing R S k f P).answer ≡ 0 → ⊥) → (hearing R S k f P).port ≡ P
  unfolding register_port
  hearing-refused S k (bad n) P h = refl
  hearing-refused S k (announce m) P h =
      ap (λ b. (cond b (taking R m P) (unchanged (refusal R S k m P) P)).port) (ne_eqb (refusal R S k m P) 0 (λ e. h (register-answer S k m P ∙ e)))

-- ---- a book

module _ {A : Type 0} (R : Reads A) where
  -- the ports after a call
  abbrev ports_after : Site → ℕ → Call A → List (Port A) → List (Port A)
  ports_after S k c Ps = map (λ (T : Turn A). T.port) (turns_from R S k c Ps)

  -- ports behind the one that hears
  behind-same : (S : Site) (k q : ℕ) (f : Frame A) → q < k → (Ps : List (Port A)) → ports_after S k (register q f) Ps ≡ Ps
  behind-same S k q f h [] = refl
  behind-same S k q f h (P ∷ Ps) =
      ap₂ (λ (Q : Port A) Qs. Q ∷ Qs) (ap (λ b. (turn R S k (cond b (hear f) idle) P).port) (ne_eqb q k (λ e. absurd (omega arith))))
      (behind-same S (suc k) q f (omega arith) Ps)

  -- port q among those numbered from k: it holds the message, every other port is as it was
  pub record FoundAt (k q : ℕ) (m : A) (Ps Qs : List (Port A)) : Type 0 where
    pub before : List (Port A)
    pub here : Port A
    pub behind : List (Port A)
    pub place : q ≡ k + length before
    pub was : Ps ≡ before ++ (here ∷ behind)
    pub is : Qs ≡ before ++ ((taking R m here).port ∷ behind)
    pub found : Found R m here (taking R m here).port

  found_from : (S : Site) (k q : ℕ) (m : A) (Ps : List (Port A)) → answer_from k q (turns_from R S k (register q (announce m)) Ps) ≡ 0
      → FoundAt k q m Ps (ports_after S k (register q (announce m)) Ps)
  found_from S k q m [] e = absurd (omega (arith, e))
  found_from S k q m (P ∷ Ps) e =
      let c : Call A = register q (announce m) in
      let T : Bool → Turn A = λ b. turn R S k (cond b (hear (announce m)) idle) P in
      let Qs = ports_after S (suc k) c Ps in
      by
      (λ b. cond b (T b).answer (answer_from (suc k) q (turns_from R S (suc k) c Ps)) ≡ 0 → FoundAt k q m (P ∷ Ps) ((T b).port ∷ Qs))
      (eqb q k)
      (λ y a. record {
        before = [];
        here = P;
        behind = Ps;
        place = omega (arith, eqb-true q k y);
        was = refl;
        is = ap₂ (λ (Q : Port A) Qs. Q ∷ Qs) (ap (λ (T : Turn A). T.port) (register-taken R S k m P (sym (register-answer R S k m P) ∙ a)))
            (behind-same S (suc k) q (announce m) (omega (arith, eqb-true q k y)) Ps);
        found = taking-found R m P;
      })
      (λ y a.
      let r = found_from S (suc k) q m Ps a in
      record {
        before = P ∷ r.before;
        here = r.here;
        behind = r.behind;
        place = omega (arith, r.place);
        was = ap (λ Qs. P ∷ Qs) r.was;
        is = ap (λ Qs. P ∷ Qs) r.is;
        found = r.found;
      }) e

  -- an accepted message is found in the book, on its port
  pub book-found : (q : ℕ) (m : A) (B : Book A) → number (register q (announce m)) (turns R (register q (announce m)) B) ≡ 0
      → FoundAt 1 q m B.ports (after R (register q (announce m)) B).ports
  unfolding number turns after
  book-found q m B e = found_from B.site 1 q m B.ports e

-- ---- what is refused

module _ {A : Type 0} (R : Reads A) where
  -- a registration that no port takes
  register-same : (S : Site) (k q : ℕ) (f : Frame A) (Ps : List (Port A)) → (answer_from k q (turns_from R S k (register q f) Ps) ≡ 0 → ⊥)
      → ports_after R S k (register q f) Ps ≡ Ps
  register-same S k q f [] h = refl
  register-same S k q f (P ∷ Ps) h =
      let c : Call A = register q f in
      let T : Bool → Turn A = λ b. turn R S k (cond b (hear f) idle) P in
      by
      (λ b. (cond b (T b).answer (answer_from (suc k) q (turns_from R S (suc k) c Ps)) ≡ 0 → ⊥) → (T b).port ∷ ports_after R S (suc k) c Ps ≡ P ∷ Ps)
      (eqb q k)
      (λ y n. ap₂ (λ (Q : Port A) Qs. Q ∷ Qs) (hearing-refused R S k f P n) (behind-same R S (suc k) q f (omega (arith, eqb-true q k y)) Ps))
      (λ y n. ap (λ Qs. P ∷ Qs) (register-same S (suc k) q f Ps n)) h

  -- a step that is too large
  age-same : (S : Site) (k step : ℕ) → ltb step step_max ≡ false → (Ps : List (Port A)) → ports_after R S k (age step) Ps ≡ Ps
  age-same S k step e [] = refl
  age-same S k step e (P ∷ Ps) =
      ap₂ (λ (Q : Port A) Qs. Q ∷ Qs) (ap (λ b. (turn R S k (cond b (pass step) idle) P).port) e) (age-same S (suc k) step e Ps)

  -- a call with another number than 0 changes nothing
  pub refused-same : (c : Call A) (B : Book A) → (number c (turns R c B) ≡ 0 → ⊥) → after R c B ≡ B
  unfolding number turns after
  refused-same (register q f) B h = ap (λ Ps. record { site = B.site; ports = Ps }) (register-same B.site 1 q f B.ports h)
  refused-same (age step) B h =
      let large = by (λ b. (◌≡◌ {A = ℕ} (cond b 0 13) 0 → ⊥) → b ≡ false) (ltb step step_max) (λ y n. absurd (n refl)) (λ y n. refl) h in
      ap (λ Ps. record { site = B.site; ports = Ps }) (age-same B.site 1 step large B.ports)
  refused-same (decide own listening) B h = absurd (h refl)
