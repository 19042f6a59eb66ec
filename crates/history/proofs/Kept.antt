-- A fresh book is sound, and every call keeps a book sound.
-- Assumes nothing.
use Rattle.std.specs.Prelude.{◌≡◌, true, false, cond, ◌&&◌, ◌||◌, ℕ, suc, ◌≤◌, ◌^◌, ltb, eqb, Option}
use Rattle.std.proofs.Math.Path.{refl, ap}
use Rattle.std.proofs.Common.{◌∙◌, arith}
use Rattle.std.proofs.Math.Bool.{Bool, not}
use mathlib.Core.List.{List, [], ◌∷◌, map}
use borrow.Author.Tests.{leb-true, leb-false, eqb-true}
use Rattle.std.proofs.Math.Dec.{leb}
use Rattle.std.proofs.Math.ListN.{length, length-map}
use Rattle.header.specs.declared.PortIdentity.{PortIdentity}
use Rattle.wire.specs.Below.{both}
use Rattle.same.specs.Same.{same_port, same-port-eq, same-port-refl}
use Rattle.history.specs.Rules.{ports_max, masters_max, messages_max, listed_max, interval_right, age_limit}
use Rattle.history.specs.Port.{Reads, sender, Master, Port, Site, Turn, accepts, receiver, push, spared, sift, known, list_of, admit, with, has_messages, unchanged, taking, chosen, age_master, is_in_order, refusal, register_port, remaining, age_port, settled_from, Offer, won_by, decide_port, bad, announce, PortCall, idle, hear, pass, judge, turn}
use Rattle.history.specs.Book.{Book, Call, share, fresh_port, fresh_book, turns_from, turns, after}
use Rattle.history.specs.Sound.{every, distinct, sources, Lawful, holdable, sound_messages, sound_master, sound_port, sound_book, startable}
use Rattle.history.proofs.Tests.{together, by}
use Rattle.history.proofs.Parts.{master-parts, master-sound, port-parts, port-sound, book-parts, book-sound, accepted-parts}
use Rattle.history.proofs.Messages.{aged-holdable, aged-order, push-some, push-few, push-sound, length-sift, length-remaining, remaining-sound, spared-some, spared-few, spared-sound}

-- ---- a message admitted

module _ {A : Type 0} (src : PortIdentity) (m : A) where
  -- a test of all masters' identities that holds of the sender too
  every-admit : (p : PortIdentity → Bool) (Ms : List (Master A)) → p src ≡ true → every p (sources Ms) ≡ true → every p (sources (admit src m Ms)) ≡ true
  every-admit p [] e s = together e refl
  every-admit p (M ∷ Ms) e s =
      let t = both (p M.source) (every p (sources Ms)) s in
      by (λ b. every p (sources (cond b (with M (push M.messages m) ∷ Ms) (M ∷ admit src m Ms))) ≡ true) (same_port M.source src) (λ y. s)
      (λ f. together t.0 (every-admit p Ms e t.1))

  -- masters stay distinct
  pub distinct-admit : (Ms : List (Master A)) → distinct (sources Ms) ≡ true → distinct (sources (admit src m Ms)) ≡ true
  distinct-admit [] s = refl
  distinct-admit (M ∷ Ms) s =
      let p : PortIdentity → Bool = λ y. not (same_port M.source y) in
      let t = both (every p (sources Ms)) (distinct (sources Ms)) s in
      by (λ b. distinct (sources (cond b (with M (push M.messages m) ∷ Ms) (M ∷ admit src m Ms))) ≡ true) (same_port M.source src) (λ y. s)
      (λ f. together (every-admit p Ms (ap not f) t.0) (distinct-admit Ms t.1))

  -- one master more exactly where its sender was not known
  pub length-admit : (Ms : List (Master A)) → length (admit src m Ms) ≡ cond (known src Ms) (length Ms) (suc (length Ms))
  length-admit [] = refl
  length-admit (M ∷ Ms) = pick (same_port M.source src) (known src Ms) (length-admit Ms)
    where
      pick : (b k : Bool) → length (admit src m Ms) ≡ cond k (length Ms) (suc (length Ms))
          → length (cond b (with M (push M.messages m) ∷ Ms) (M ∷ admit src m Ms)) ≡ cond (b || k) (suc (length Ms)) (suc (suc (length Ms)))
      pick true k e = refl
      pick false true e = ap suc e
      pick false false e = ap suc e

  -- a port has room for it
  few-admit : (Ms : List (Master A)) → length Ms ≤ masters_max → (not (known src Ms) && leb masters_max (length Ms)) ≡ false
      → length (admit src m Ms) ≤ masters_max
  few-admit Ms h e = pick (known src Ms) (length-admit Ms) e
    where
      pick : (k : Bool) → length (admit src m Ms) ≡ cond k (length Ms) (suc (length Ms)) → (not k && leb masters_max (length Ms)) ≡ false
          → length (admit src m Ms) ≤ masters_max
      pick true q e = omega arith
      pick false q e = omega (arith, leb-false masters_max (length Ms) e)

module _ {A : Type 0} (R : Reads A) (S : Site) (limit : ℕ) where
  abbrev sound : Master A → Bool
  sound M = sound_master R S limit M

  -- a master with other messages
  with-sound : (M : Master A) (ms : List A) → sound M ≡ true → 1 ≤ length ms → length ms ≤ messages_max → sound_messages R M.source limit ms ≡ true
      → sound (with M ms) ≡ true
  with-sound M ms s h l e =
      let p = master-parts R S limit M s in
      master-sound R S limit (with M ms) (record { some = h; few = l; foreign = p.foreign; accepted = p.accepted; messages = e })

  module _ (src : PortIdentity) (m : A) (new : R.age m ≡ 0) (good : holdable R src limit m ≡ true) (foreign : eqb src.clock_identity S.own ≡ false)
      (accepted : accepts S src.clock_identity ≡ true) where
    -- every master stays sound
    masters-admit : (Ms : List (Master A)) → every sound Ms ≡ true → is_in_order R (list_of src Ms) m ≡ true → every sound (admit src m Ms) ≡ true
    masters-admit [] s o =
        together
        (master-sound R S limit (record { source = src; messages = m ∷ [] })
        (record { some = omega arith; few = omega arith; foreign = foreign; accepted = accepted; messages = together good refl }))
        refl
    masters-admit (M ∷ Ms) s o =
        let t = both (sound M) (every sound Ms) s in
        let p = master-parts R S limit M t.0 in
        by
        (λ b. is_in_order R (cond b M.messages (list_of src Ms)) m ≡ true → every sound (cond b (with M (push M.messages m) ∷ Ms) (M ∷ admit src m Ms)) ≡ true)
        (same_port M.source src)
        (λ y o.
        let g : holdable R M.source limit m ≡ true = ap (λ x. holdable R x limit m) (same-port-eq M.source src y) ∙ good in
        together
        (with-sound M (push M.messages m) t.0 (push-some M.messages m) (push-few M.messages m p.few)
        (push-sound R M.source limit M.messages m new g p.messages o))
        t.1)
        (λ y o. together t.0 (masters-admit Ms t.1 o)) o

-- ---- ageing

module _ {A : Type 0} (R : Reads A) (step limit : ℕ) where
  -- the masters that are left
  lasting : List (Master A) → List (Master A)
  lasting Ms = sift has_messages (map (age_master R step limit) Ms)

  -- they are among those before, so distinct and no more
  every-lasting : (p : PortIdentity → Bool) (Ms : List (Master A)) → every p (sources Ms) ≡ true → every p (sources (lasting Ms)) ≡ true
  unfolding lasting
  every-lasting p [] s = refl
  every-lasting p (M ∷ Ms) s =
      let t = both (p M.source) (every p (sources Ms)) s in
      by (λ b. every p (sources (cond b (age_master R step limit M ∷ lasting Ms) (lasting Ms))) ≡ true) (has_messages (age_master R step limit M))
      (λ y. together t.0 (every-lasting p Ms t.1)) (λ y. every-lasting p Ms t.1)

  distinct-lasting : (Ms : List (Master A)) → distinct (sources Ms) ≡ true → distinct (sources (lasting Ms)) ≡ true
  unfolding lasting
  distinct-lasting [] s = refl
  distinct-lasting (M ∷ Ms) s =
      let p : PortIdentity → Bool = λ y. not (same_port M.source y) in
      let t = both (every p (sources Ms)) (distinct (sources Ms)) s in
      let r = distinct-lasting Ms t.1 in
      by (λ b. distinct (sources (cond b (age_master R step limit M ∷ lasting Ms) (lasting Ms))) ≡ true) (has_messages (age_master R step limit M))
      (λ y. together (every-lasting p Ms t.0) r) (λ y. r)

  few-lasting : (Ms : List (Master A)) → length (lasting Ms) ≤ length Ms
  unfolding lasting
  few-lasting Ms = omega (arith, length-sift has_messages (map (age_master R step limit) Ms), length-map Ms (age_master R step limit))

  -- each is sound
  masters-lasting : Lawful R → (S : Site) (Ms : List (Master A)) → every (sound_master R S limit) Ms ≡ true → every (sound_master R S limit) (lasting Ms) ≡ true
  unfolding lasting
  masters-lasting law S [] s = refl
  masters-lasting law S (M ∷ Ms) s =
      let f = sound_master R S limit in
      let t = both (f M) (every f Ms) s in
      let p = master-parts R S limit M t.0 in
      let r = masters-lasting law S Ms t.1 in
      let ms = remaining R step limit M.messages in
      by (λ b. every f (cond b (age_master R step limit M ∷ lasting Ms) (lasting Ms)) ≡ true) (has_messages (age_master R step limit M))
      (λ y. together
      (with-sound R S limit M ms t.0 (leb-true 1 (length ms) y) (omega (arith, p.few, length-remaining R step limit M.messages))
      (remaining-sound law M.source limit step M.messages p.messages))
      r)
      (λ y. r)

-- ---- deciding

module _ {A : Type 0} where
  -- the same masters
  sources-settled : (w : Option Offer) (i : ℕ) (Ms : List (Master A)) → sources (settled_from w i Ms) ≡ sources Ms
  sources-settled w i [] = refl
  sources-settled w i (M ∷ Ms) = ap (λ (l : List PortIdentity). M.source ∷ l) (sources-settled w (suc i) Ms)

  length-settled : (w : Option Offer) (i : ℕ) (Ms : List (Master A)) → length (settled_from w i Ms) ≡ length Ms
  length-settled w i [] = refl
  length-settled w i (M ∷ Ms) = ap suc (length-settled w (suc i) Ms)

module _ {A : Type 0} (R : Reads A) (S : Site) (limit : ℕ) where
  -- each is sound
  masters-settled : (w : Option Offer) (i : ℕ) (Ms : List (Master A)) → every (sound_master R S limit) Ms ≡ true
      → every (sound_master R S limit) (settled_from w i Ms) ≡ true
  masters-settled w i [] s = refl
  masters-settled w i (M ∷ Ms) s =
      let f = sound_master R S limit in
      let t = both (f M) (every f Ms) s in
      let p = master-parts R S limit M t.0 in
      together
      (by (λ b. f (with M (cond b M.messages (spared M.messages))) ≡ true) (won_by w i) (λ y. t.0)
      (λ y. with-sound R S limit M (spared M.messages) t.0 (spared-some M.messages p.some) (omega (arith, p.few, spared-few M.messages))
      (spared-sound R M.source limit M.messages p.messages)))
      (masters-settled w (suc i) Ms t.1)

-- ---- every call

module _ {A : Type 0} {R : Reads A} (law : Lawful R) (S : Site) (k : ℕ) where
  -- register, age, decide
  register-sound : (m : A) (P : Port A) → sound_port R S P ≡ true → sound_port R S (register_port R S k m P).port ≡ true
  unfolding register_port
  register-sound m P s =
      by (λ b. sound_port R S (cond b (taking R m P) (unchanged (refusal R S k m P) P)).port ≡ true) (eqb (refusal R S k m P) 0)
      (λ t.
      let p = port-parts R S P s in
      let a = accepted-parts R S k m P (eqb-true (refusal R S k m P) 0 t) in
      let n = P.interval in
      let src = sender R m in
      let h = aged-holdable law src (age_limit n) m 0 (same-port-refl src) a.steps (omega (arith, leb-true 1 n (both (leb 1 n) (ltb n (2 ^ 60)) p.interval).0)) in
      port-sound R S (taking R m P).port
      (record {
        interval = p.interval;
        few = few-admit src (R.aged m 0) P.masters p.few a.room;
        apart = distinct-admit src (R.aged m 0) P.masters p.apart;
        masters =
            masters-admit R S (age_limit n) src (R.aged m 0) (law.age m 0) h a.foreign a.accepted P.masters p.masters
            (aged-order law (list_of src P.masters) m 0 a.order);
      }))
      (λ t. s)

  age-sound : (step : ℕ) (P : Port A) → sound_port R S P ≡ true → sound_port R S (age_port R step P).port ≡ true
  unfolding age_port lasting
  age-sound step P s =
      let p = port-parts R S P s in
      let limit = age_limit P.interval in
      port-sound R S (age_port R step P).port
      (record {
        interval = p.interval;
        few = omega (arith, p.few, few-lasting R step limit P.masters);
        apart = distinct-lasting R step limit P.masters p.apart;
        masters = masters-lasting R step limit law S P.masters p.masters;
      })

  decide-sound : (P : Port A) → sound_port R S P ≡ true → sound_port R S (decide_port R S k P).port ≡ true
  unfolding decide_port
  decide-sound P s =
      let p = port-parts R S P s in
      let w = chosen R (receiver S k) P.masters in
      port-sound R S (decide_port R S k P).port
      (record {
        interval = p.interval;
        few = omega (arith, p.few, length-settled w 0 P.masters);
        apart = ap distinct (sources-settled w 0 P.masters) ∙ p.apart;
        masters = masters-settled R S (age_limit P.interval) w 0 P.masters p.masters;
      })

  -- a port stays sound
  pub turn-sound : (c : PortCall A) (P : Port A) → sound_port R S P ≡ true → sound_port R S (turn R S k c P).port ≡ true
  turn-sound idle P s = s
  turn-sound (hear (bad n)) P s = s
  turn-sound (hear (announce m)) P s = register-sound m P s
  turn-sound (pass step) P s = age-sound step P s
  turn-sound judge P s = decide-sound P s

-- as many ports as before
pub length-after : {A : Type 0} (R : Reads A) (S : Site) (k : ℕ) (c : Call A) (Ps : List (Port A))
    → length (map (λ (T : Turn A). T.port) (turns_from R S k c Ps)) ≡ length Ps
length-after R S k c [] = refl
length-after R S k c (P ∷ Ps) = ap suc (length-after R S (suc k) c Ps)

module _ {A : Type 0} {R : Reads A} (law : Lawful R) where
  -- every port stays sound
  ports-sound : (S : Site) (k : ℕ) (c : Call A) (Ps : List (Port A)) → every (sound_port R S) Ps ≡ true
      → every (sound_port R S) (map (λ (T : Turn A). T.port) (turns_from R S k c Ps)) ≡ true
  ports-sound S k c [] s = refl
  ports-sound S k c (P ∷ Ps) s =
      let t = both (sound_port R S P) (every (sound_port R S) Ps) s in
      together (turn-sound law S k (share k c) P t.0) (ports-sound S (suc k) c Ps t.1)

  -- a book stays sound
  pub after-sound : (c : Call A) (B : Book A) → sound_book R B ≡ true → sound_book R (after R c B) ≡ true
  unfolding after turns
  after-sound c B s =
      let p = book-parts R B s in
      let e = length-after R B.site 1 c B.ports in
      book-sound R (after R c B)
      (record { some = omega (arith, p.some, e); few = omega (arith, p.few, e); listed = p.listed; ports = ports-sound B.site 1 c B.ports p.ports })

-- ---- a fresh start

module _ {A : Type 0} (R : Reads A) where
  -- ports without masters are sound
  fresh-ports : (S : Site) (ns : List ℕ) → every interval_right ns ≡ true → every (sound_port R S) (map fresh_port ns) ≡ true
  fresh-ports S [] s = refl
  fresh-ports S (n ∷ ns) s =
      let t = both (interval_right n) (every interval_right ns) s in
      together (port-sound R S (fresh_port n) (record { interval = t.0; few = omega arith; apart = refl; masters = refl })) (fresh-ports S ns t.1)

  -- a fresh book is sound
  pub fresh-sound : (S : Site) (ns : List ℕ) → startable S.listed ns ≡ true → sound_book R (fresh_book S ns) ≡ true
  unfolding startable sound_book
  fresh-sound S ns s =
      let n = length ns in
      let t = both (leb 1 n && leb n ports_max && leb (length S.listed) listed_max) (every interval_right ns) s in
      together (ap (λ (j : ℕ). leb 1 j && leb j ports_max && leb (length S.listed) listed_max) (length-map ns fresh_port) ∙ t.0) (fresh-ports S ns t.1)
