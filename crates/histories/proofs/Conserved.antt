-- Conservation: from a fresh start on, every accepted registration is either held or gone for exactly one cause, and the tallies count
-- those gone.
-- Assumes nothing.
use Rattle.std.specs.Prelude.{◌≡◌, ◌⊎◌, ℕ, ◌+◌, ltb}
use Rattle.std.proofs.Math.Path.{refl, ap}
use Rattle.std.proofs.Common.{sym, subst, ◌∙◌, zero-add, lt-ltb, le-ltb, ltb-true, ltb-false, eqb-true, ne_eqb}
use Rattle.std.proofs.Math.Bool.{Bool, cond}
use mathlib.Core.List.{List, [], ◌∷◌, ◌++◌}
use Rattle.std.proofs.Math.Option.{some}
use Rattle.std.proofs.Math.Logic.{inl, inr}
use native.Mathlib.Omega.{arith}
use Rattle.std.proofs.Math.Nat.{add-zero}
use Rattle.std.proofs.lemmas.Bool.{eqb-false}
use Rattle.std.proofs.Math.Arith.{lt_of_le-ne}
use Rattle.std.proofs.Math.Dec.{eqb}
use Rattle.std.proofs.Math.ListN.{length, get_elem?, length-append}
use Rattle.std.proofs.lemmas.List.{length-map}
use Rattle.history.specs.Port.{Reads, Port, Site, Turn, held_by, unchanged, taking, refusal, register_port, age_port, decide_port, bad, announce, PortCall, idle, hear, pass, judge, turn}
use Rattle.history.specs.Book.{Book, fresh_port, total}
use Rattle.history.proofs.Tests.{by}
use Rattle.histories.specs.History.{Event, Since, since, begun, mine, run_all, run, port_turns, port_run}
use Rattle.histories.proofs.Moments.{since-run}
use Rattle.histories.proofs.Independence.{run_alone, fresh-alone}
use Rattle.histories.specs.Ledger.{Numbered, numbered_reads, serials, bodies, plain_port, plain_turn, stamp, times, Ledger, fresh_ledger, entered, entries, Placed, Tallied, ledger_turn, ledger_run, ledger_of}
use Rattle.histories.proofs.Turns.{count, turn_conserves}
use Rattle.histories.proofs.Plain.{turn-plain}

times-append : (x : ℕ) (ys zs : List ℕ) → times x (ys ++ zs) ≡ times x ys + times x zs
times-append x [] zs = omega arith
times-append x (y ∷ ys) zs = omega (arith, times-append x ys zs)

count-times : {A : Type 0} (x : ℕ) (l : List (Numbered A)) → count (λ a. eqb a.serial x) l ≡ times x (serials l)
count-times x [] = refl
count-times x (a ∷ l) = ap (λ (n : ℕ). cond (eqb a.serial x) 1 0 + n) (count-times x l)

-- one number more
next : (x n : ℕ) → cond (ltb x n) 1 0 + cond (eqb n x) 1 0 ≡ cond (ltb x (1 + n)) 1 0
next x n =
    by (λ b. cond b 1 0 + cond (eqb n x) 1 0 ≡ cond (ltb x (1 + n)) 1 0) (ltb x n)
    (λ t. rw (ne_eqb n x (λ q. omega (arith, ltb-true x n t)), lt-ltb x (1 + n) (omega (arith, ltb-true x n t))))
    (λ f. by (λ b. 0 + cond b 1 0 ≡ cond (ltb x (1 + n)) 1 0) (eqb n x) (λ t. rw (lt-ltb x (1 + n) (omega (arith, eqb-true n x t))))
    (λ g. rw (le-ltb x (1 + n) (omega (arith, lt_of_le-ne (ltb-false x n f) (eqb-false n x g))))))

grown : (x n : ℕ) (l : List ℕ) → (l ≡ []) ⊎ (l ≡ n ∷ []) → cond (ltb x n) 1 0 + times x l ≡ cond (ltb x (length l + n)) 1 0
grown x n l (inl e) = rw (e, zero-add n, add-zero (cond (ltb x n) 1 0))
grown x n l (inr e) = rw (e, add-zero (cond (eqb n x) 1 0)) (next x n)

module _ {A : Type 0} (R : Reads A) (S : Site) (k : ℕ) where
  -- a turn takes in nothing, or the message with the number that it was given
  taken-number : (n : ℕ) (c : PortCall A) (P : Port (Numbered A))
      → (serials (turn (numbered_reads R) S k (stamp n c) P).taken ≡ []) ⊎ (serials (turn (numbered_reads R) S k (stamp n c) P).taken ≡ n ∷ [])
  unfolding register_port age_port decide_port
  taken-number n idle P = inl refl
  taken-number n (hear (bad x)) P = inl refl
  taken-number n (hear (announce m)) P =
      let a : Numbered A = record { serial = n; body = m } in
      let x = refusal (numbered_reads R) S k a P in
      by (λ b. (serials (cond b (taking (numbered_reads R) a P) (unchanged x P)).taken ≡ []) ⊎ (serials (cond b (taking (numbered_reads R) a P) (unchanged x P)).taken ≡ n ∷ []))
      (eqb x 0) (λ t. inr refl) (λ t. inl refl)
  taken-number n (pass step) P = inl refl
  taken-number n judge P = inl refl

  entered-placed : (c : PortCall A) (L : Ledger A) → Placed L → Placed (entered (ledger_turn R S k c L) L)
  unfolding entered
  entered-placed c L h x =
      let T = ledger_turn R S k c L in
      let f : Numbered A → Bool = λ a. eqb a.serial x in
      let balance = turn_conserves (numbered_reads R) f (λ a n. refl) S k (stamp L.accepted c) L.port in
      let number : (l : List (Numbered A)) → count f l ≡ times x (serials l) = count-times x in
      let sums : entries x (entered T L) ≡ entries x L + times x (serials T.taken) =
      omega (
        arith,
        balance,
        number (held_by T.port.masters),
        number (held_by L.port.masters),
        number T.taken,
        number T.evicted,
        number T.aged_out,
        number T.consumed,
        times-append x (serials T.evicted) L.evicted,
        times-append x (serials T.aged_out) L.aged_out,
        times-append x (serials T.consumed) L.consumed,
      ) in
      sums
      ∙ ap (λ (n : ℕ). n + times x (serials T.taken)) (h x)
      ∙ grown x L.accepted (serials T.taken) (taken-number L.accepted c L.port)
      ∙ ap (λ (n : ℕ). cond (ltb x (n + L.accepted)) 1 0) (length-map T.taken (λ (a : Numbered A). a.serial))

  run-placed : (L : Ledger A) (cs : List (PortCall A)) → Placed L → Placed (ledger_run R S k L cs)
  run-placed L [] h = h
  run-placed L (c ∷ cs) h = run-placed (entered (ledger_turn R S k c L) L) cs (entered-placed c L h)

  -- Every accepted registration is in exactly one place.
  pub conserved : (interval : ℕ) (cs : List (PortCall A)) → Placed (ledger_run R S k (fresh_ledger interval) cs)
  conserved interval cs = run-placed (fresh_ledger interval) cs (λ x. sym (ap (λ (b : Bool). cond b 1 0) (le-ltb x 0 (omega arith))))

  -- The ledger is of the real port: its numbers forgotten, it is the port and its turns.
  entered-plain : (c : PortCall A) (L : Ledger A) → plain_port (entered (ledger_turn R S k c L) L).port ≡ (turn R S k c (plain_port L.port)).port
  unfolding entered plain_turn
  entered-plain c L = ap (λ (T : Turn A). T.port) (turn-plain R S k L.accepted c L.port)

  pub run-plain : (L : Ledger A) (cs : List (PortCall A)) → plain_port (ledger_run R S k L cs).port ≡ port_run R S k (plain_port L.port) cs
  run-plain L [] = refl
  run-plain L (c ∷ cs) = run-plain (entered (ledger_turn R S k c L) L) cs ∙ ap (λ (P : Port A). port_run R S k P cs) (entered-plain c L)

  -- what a ledger counts of its turns, the turns of the port count
  module _ (Some-of : Turn (Numbered A) → List (Numbered A)) (same_of : Turn A → List A) (out : Ledger A → ℕ)
      (agree : (T : Turn (Numbered A)) → same_of (plain_turn T) ≡ bodies (Some-of T))
      (adds : (T : Turn (Numbered A)) (L : Ledger A) → out (entered T L) ≡ length (Some-of T) + out L) where
    tally : (L : Ledger A) (cs : List (PortCall A)) → out (ledger_run R S k L cs) ≡ total same_of (port_turns R S k (plain_port L.port) cs) + out L
    tally L [] = omega arith
    tally L (c ∷ cs) =
        let T = ledger_turn R S k c L in
        let r : total same_of (port_turns R S k (plain_port (entered T L).port) cs) ≡ total same_of (port_turns R S k (turn R S k c (plain_port L.port)).port cs) =
        ap (λ (P : Port A). total same_of (port_turns R S k P cs)) (entered-plain c L) in
        let n : length (same_of (turn R S k c (plain_port L.port))) ≡ length (Some-of T) =
        ap (λ (t : Turn A). length (same_of t)) (sym (turn-plain R S k L.accepted c L.port)) ∙ ap length (agree T) ∙ length-map (Some-of T) (λ (a : Numbered A). a.body) in
        omega (arith, tally (entered T L) cs, r, n, adds T L)

  -- The tallies of the turns count exactly the messages named gone.
  pub tallied : (interval : ℕ) (cs : List (PortCall A)) → Tallied (ledger_run R S k (fresh_ledger interval) cs) (port_turns R S k (fresh_port interval) cs)
  unfolding plain_turn entered
  tallied interval cs =
      let L = fresh_ledger interval in
      record {
        accepted = tally (λ T. T.taken) (λ T. T.taken) (λ L. L.accepted) (λ T. refl) (λ T L. refl) L cs ∙ add-zero _;
        evicted = tally (λ T. T.evicted) (λ T. T.evicted) (λ L. length L.evicted) (λ T. refl) (λ T L. joins T.evicted L.evicted) L cs ∙ add-zero _;
        aged_out = tally (λ T. T.aged_out) (λ T. T.aged_out) (λ L. length L.aged_out) (λ T. refl) (λ T L. joins T.aged_out L.aged_out) L cs ∙ add-zero _;
        consumed = tally (λ T. T.consumed) (λ T. T.consumed) (λ L. length L.consumed) (λ T. refl) (λ T L. joins T.consumed L.consumed) L cs ∙ add-zero _;
      }
    where
      joins : (l : List (Numbered A)) (ns : List ℕ) → length (serials l ++ ns) ≡ length l + length ns
      joins l ns = length-append (serials l) ns ∙ ap (λ (n : ℕ). n + length ns) (length-map l (λ (a : Numbered A). a.serial))

-- A port takes in a message exactly where it answers the registration 0.
pub taken-answer : {A : Type 0} (R : Reads A) (S : Site) (k : ℕ) (m : A) (P : Port A)
    → (register_port R S k m P).taken ≡ cond (eqb (register_port R S k m P).answer 0) (R.aged m 0 ∷ []) []
unfolding register_port
taken-answer R S k m P =
    let n = refusal R S k m P in
    let T : Bool → Turn _ = λ b. cond b (taking R m P) (unchanged n P) in
    by (λ b. (T b).taken ≡ cond (eqb (T b).answer 0) (R.aged m 0 ∷ []) []) (eqb n 0) (λ t. refl) (λ t. rw t)

module _ {A : Type 0} (R : Reads A) where
  -- the ledger of port 1 + i of a book, which had this interval at a fresh start: it is of that very port, every accepted registration
  -- is in one place, and the tallies of the port's turns count those gone
  pub record Accounted (B : Book A) (s : Since A) (i interval : ℕ) : Type 0 where
    pub port : get_elem? B.ports i ≡ some (plain_port (ledger_of R s i interval).port)
    pub placed : Placed (ledger_of R s i interval)
    pub tallied : Tallied (ledger_of R s i interval) (port_turns R s.site (1 + i) (fresh_port interval) (mine (1 + i) s.calls))

  -- Conservation, over any calls from a fresh start,
  pub book_ledger : (s : Since A) (i interval : ℕ) → get_elem? s.intervals i ≡ some interval → Accounted (run R (begun s) s.calls) s i interval
  book_ledger s i interval e =
      let cs = mine (1 + i) s.calls in
      record {
        port =
            run_alone R i (begun s) (fresh_port interval) s.calls (fresh-alone R i s.site s.intervals interval e)
            ∙ ap some (sym (run-plain R s.site (1 + i) (fresh_ledger interval) cs));
        placed = conserved R s.site (1 + i) interval cs;
        tallied = tallied R s.site (1 + i) interval cs;
      }

  -- so at every moment of every history, whatever lay there before.
  pub history_ledger : (B : Book A) (es : List (Event A)) (s : Since A) (i interval : ℕ) → since es ≡ some s → get_elem? s.intervals i ≡ some interval
      → Accounted (run_all R B es) s i interval
  history_ledger B es s i interval e f = subst (λ D. Accounted D s i interval) (sym (since-run R B es s e).book) (book_ledger s i interval f)
