-- Conservation as counts: as many registrations were accepted as messages are held, evicted, aged out and consumed.
-- Assumes nothing.
use Rattle.std.specs.Prelude.{◌≡◌, refl, Bool, true, cond, List, [], ◌∷◌, map, ℕ, suc, ◌+◌, ◌<◌, ltb, eqb}
use Rattle.std.proofs.Common.{ap, ◌∙◌, arith, eqb-true, ne_eqb}
use Rattle.std.proofs.Math.Option.{some}
use Rattle.std.proofs.Math.ListN.{length}
use Rattle.history.specs.Rules.{step_max}
use Rattle.history.specs.Port.{Reads, Port, Site, Turn, held_by, register_port, age_port, decide_port, bad, announce, PortCall, idle, hear, pass, turn}
use Rattle.history.specs.Book.{Book, Call, register, age, decide, fresh_port, share, answer_from, number, total, turns_from, turns, after}
use Rattle.history.proofs.Tests.{by}
use Rattle.histories.specs.History.{Event, Since, since, begun, run_all, run, book_turns, port_turns, port_run}
use Rattle.histories.proofs.Moments.{since-run}
use Rattle.histories.specs.Ledger.{grand_total}
use Rattle.histories.proofs.Turns.{count, turn_conserves}
use Rattle.histories.proofs.Conserved.{taken-answer}
use Rattle.histories.specs.Balance.{accepting, accepted_by, held_in}

module _ {A : Type 0} (R : Reads A) where
  module _ (S : Site) where
    -- no port takes in a message
    none-taken : (c : Call A) → ((k : ℕ) (P : Port A) → length (turn R S k (share k c) P).taken ≡ 0) → (k : ℕ) (Ps : List (Port A))
        → total (λ T. T.taken) (turns_from R S k c Ps) ≡ 0
    none-taken c h k [] = refl
    none-taken c h k (P ∷ Ps) = omega (arith, h k P, none-taken c h (suc k) Ps)

    -- nor does one behind the port that hears
    behind-taken : (q : ℕ) (m : A) (k : ℕ) (Ps : List (Port A)) → q < k → total (λ T. T.taken) (turns_from R S k (register q (announce m)) Ps) ≡ 0
    behind-taken q m k [] h = refl
    behind-taken q m k (P ∷ Ps) h =
        ap (λ b. length (turn R S k (cond b (hear (announce m)) idle) P).taken + total (λ T. T.taken) (turns_from R S (suc k) (register q (announce m)) Ps))
        (ne_eqb q k (λ e. absurd (omega arith)))
        ∙ omega (arith, behind-taken q m (suc k) Ps (omega arith))

    taken-from : (q : ℕ) (m : A) (k : ℕ) (Ps : List (Port A))
        → total (λ T. T.taken) (turns_from R S k (register q (announce m)) Ps) ≡ cond (eqb (answer_from k q (turns_from R S k (register q (announce m)) Ps)) 0) 1 0
    taken-from q m k [] = refl
    taken-from q m k (P ∷ Ps) =
        let Ts = turns_from R S (suc k) (register q (announce m)) Ps in
        let T : Bool → Turn A = λ b. turn R S k (cond b (hear (announce m)) idle) P in
        by (λ b. length (T b).taken + total (λ T. T.taken) Ts ≡ cond (eqb (cond b (T b).answer (answer_from (suc k) q Ts)) 0) 1 0) (eqb q k)
        (λ y.
        let n = (register_port R S k m P).answer in
        omega (
          arith,
          ap length (taken-answer R S k m P)
              ∙ by (λ b. length (cond b (R.aged m 0 ∷ []) []) ≡ cond b 1 0) (eqb n 0) (λ t. refl) (λ t. refl),
          behind-taken q m (suc k) Ps (omega (arith, eqb-true q k y)),
        ))
        (λ y. omega (arith, taken-from q m (suc k) Ps))

  -- A call takes in a message exactly where it is a registration that is accepted.
  pub taken-accepted : (c : Call A) (B : Book A) → total (λ T. T.taken) (turns R c B) ≡ accepting c (number c (turns R c B))
  unfolding turns number age_port decide_port
  taken-accepted (register q (bad n)) B =
      none-taken B.site (register q (bad n))
      (λ k P. by (λ b. length (turn R B.site k (cond b (hear (bad n)) idle) P).taken ≡ 0) (eqb q k) (λ t. refl) (λ t. refl)) 1 B.ports
  taken-accepted (register q (announce m)) B = taken-from B.site q m 1 B.ports
  taken-accepted (age step) B =
      none-taken B.site (age step)
      (λ k P. by (λ b. length (turn R B.site k (cond b (pass step) idle) P).taken ≡ 0) (ltb step step_max) (λ t. refl) (λ t. refl)) 1 B.ports
  taken-accepted (decide own listening) B = none-taken B.site (decide own listening) (λ k P. refl) 1 B.ports

  -- over several calls
  pub all-accepted : (B : Book A) (cs : List (Call A)) → grand_total (λ T. T.taken) (book_turns R B cs) ≡ accepted_by R B cs
  all-accepted B [] = refl
  all-accepted B (c ∷ cs) = omega (arith, taken-accepted c B, all-accepted (after R c B) cs)

count-all : {A : Type 0} (xs : List A) → count (λ a. true) xs ≡ length xs
count-all [] = refl
count-all (x ∷ xs) = omega (arith, count-all xs)

fresh-empty : (A : Type 0) (ns : List ℕ) → held_in {A = A} (map fresh_port ns) ≡ 0
fresh-empty A [] = refl
fresh-empty A (n ∷ ns) = omega (arith, fresh-empty A ns)

module _ {A : Type 0} (R : Reads A) where
  -- one turn
  turn_balance : (S : Site) (k : ℕ) (c : PortCall A) (P : Port A)
      → let T = turn R S k c P in
      length (held_by T.port.masters) + length T.evicted + length T.aged_out + length T.consumed ≡ length (held_by P.masters) + length T.taken
  turn_balance S k c P =
      let T = turn R S k c P in
      omega (
        arith,
        turn_conserves R (λ a. true) (λ a n. refl) S k c P,
        count-all (held_by T.port.masters),
        count-all (held_by P.masters),
        count-all T.taken,
        count-all T.evicted,
        count-all T.aged_out,
        count-all T.consumed,
      )

  -- A port alone, over any calls from any start.
  port-run_balance : (S : Site) (k : ℕ) (P : Port A) (cs : List (PortCall A))
      → let Ts = port_turns R S k P cs in
      length (held_by (port_run R S k P cs).masters) + total (λ T. T.evicted) Ts + total (λ T. T.aged_out) Ts + total (λ T. T.consumed) Ts
      ≡ length (held_by P.masters) + total (λ T. T.taken) Ts
  port-run_balance S k P [] = omega arith
  port-run_balance S k P (c ∷ cs) = omega (arith, turn_balance S k c P, port-run_balance S k (turn R S k c P).port cs)

  -- Of a port since a fresh start: accepted is held, evicted, aged out and consumed together.
  pub port_balance : (S : Site) (k interval : ℕ) (cs : List (PortCall A))
      → let Ts = port_turns R S k (fresh_port interval) cs in
      total (λ T. T.taken) Ts
      ≡ length (held_by (port_run R S k (fresh_port interval) cs).masters) + total (λ T. T.evicted) Ts + total (λ T. T.aged_out) Ts + total (λ T. T.consumed) Ts
  port_balance S k interval cs = omega (arith, port-run_balance S k (fresh_port interval) cs)

  -- one call on all ports, numbered from k
  turns_balance : (S : Site) (k : ℕ) (c : Call A) (Ps : List (Port A))
      → let Ts = turns_from R S k c Ps in
      held_in (map (λ (T : Turn A). T.port) Ts) + total (λ T. T.evicted) Ts + total (λ T. T.aged_out) Ts + total (λ T. T.consumed) Ts
      ≡ held_in Ps + total (λ T. T.taken) Ts
  turns_balance S k c [] = refl
  turns_balance S k c (P ∷ Ps) = omega (arith, turn_balance S k (share k c) P, turns_balance S (suc k) c Ps)

  -- one call on a book, and several
  call_balance : (c : Call A) (B : Book A)
      → let Ts = turns R c B in
      held_in (after R c B).ports + total (λ T. T.evicted) Ts + total (λ T. T.aged_out) Ts + total (λ T. T.consumed) Ts
      ≡ held_in B.ports + total (λ T. T.taken) Ts
  unfolding turns after
  call_balance c B = turns_balance B.site 1 c B.ports

  run_balance : (B : Book A) (cs : List (Call A))
      → let Tss = book_turns R B cs in
      held_in (run R B cs).ports + grand_total (λ T. T.evicted) Tss + grand_total (λ T. T.aged_out) Tss + grand_total (λ T. T.consumed) Tss
      ≡ held_in B.ports + grand_total (λ T. T.taken) Tss
  run_balance B [] = omega arith
  run_balance B (c ∷ cs) = omega (arith, call_balance c B, run_balance (after R c B) cs)

  -- Of a book at every moment of every history: the registrations accepted since the last fresh start are as many as the messages held
  -- now and those that the calls since reported evicted, aged out and consumed.
  pub history_balance : (B : Book A) (es : List (Event A)) (s : Since A) → since es ≡ some s
      → let Tss = book_turns R (begun s) s.calls in
      accepted_by R (begun s) s.calls
      ≡ held_in (run_all R B es).ports + grand_total (λ T. T.evicted) Tss + grand_total (λ T. T.aged_out) Tss + grand_total (λ T. T.consumed) Tss
  history_balance B es s e =
      omega (
        arith,
        run_balance (begun s) s.calls,
        fresh-empty A s.intervals,
        all-accepted R (begun s) s.calls,
        ap (λ (D : Book A). held_in D.ports) (since-run R B es s e).book,
      )
