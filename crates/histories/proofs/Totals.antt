-- The tallies that the calls of a history report add up to the messages named gone in the ledgers of the ports.
-- Assumes nothing.
use Rattle.std.specs.Prelude.{◌≡◌, ℕ, suc, ◌+◌, length}
use Rattle.std.proofs.Math.Path.{refl, ap}
use Rattle.std.proofs.Common.{◌∙◌, arith}
use mathlib.Core.List.{List, [], ◌∷◌, map}
use Rattle.history.specs.Port.{Reads, Port, Site, Turn, unchanged, PortCall, idle, hear, pass, judge, turn}
use Rattle.history.specs.Book.{Book, Call, fresh_port, share, total, turns_from, turns, after}
use Rattle.histories.specs.History.{Since, begun, noted, mine, book_turns, port_turns}
use Rattle.histories.specs.Ledger.{Ledger, fresh_ledger, ledger_run, ledgers_total, grand_total}
use Rattle.histories.proofs.Conserved.{tallied}

module _ {A : Type 0} (R : Reads A) (S : Site) (f : Turn A → List A) where
  -- the ports' turns in a history, numbered from k
  abbrev ports_turns : ℕ → List (Port A) → List (Call A) → List (List (Turn A))
  ports_turns k Ps [] = []
  ports_turns k Ps (c ∷ cs) = turns_from R S k c Ps ∷ ports_turns k (map (λ (T : Turn A). T.port) (turns_from R S k c Ps)) cs

  -- by ports
  none-total : (k : ℕ) (cs : List (Call A)) → grand_total f (ports_turns k [] cs) ≡ 0
  none-total k [] = refl
  none-total k (c ∷ cs) = omega (arith, none-total k cs)

  split-total : (k : ℕ) (P : Port A) (Ps : List (Port A)) (cs : List (Call A))
      → grand_total f (ports_turns k (P ∷ Ps) cs) ≡ total f (port_turns R S k P (map (share k) cs)) + grand_total f (ports_turns (suc k) Ps cs)
  split-total k P Ps [] = refl
  split-total k P Ps (c ∷ cs) =
      omega (arith, split-total k (turn R S k (share k c) P).port (map (λ (T : Turn A). T.port) (turns_from R S (suc k) c Ps)) cs)

  module _ (calm : (P : Port A) → length (f (unchanged 0 P)) ≡ 0) where
    -- calls that are nothing to a port add nothing
    total-noted : (k : ℕ) (c : PortCall A) (P : Port A) (cs ds : List (PortCall A))
        → total f (port_turns R S k (turn R S k c P).port cs) ≡ total f (port_turns R S k (turn R S k c P).port ds)
        → total f (port_turns R S k P (c ∷ cs)) ≡ total f (port_turns R S k P (noted c c ds))
    total-noted k idle P cs ds e = omega (arith, calm P)
    total-noted k (hear g) P cs ds e = ap (λ (n : ℕ). length (f (turn R S k (hear g) P)) + n) e
    total-noted k (pass step) P cs ds e = ap (λ (n : ℕ). length (f (turn R S k (pass step) P)) + n) e
    total-noted k judge P cs ds e = ap (λ (n : ℕ). length (f (turn R S k judge P)) + n) e

    total-mine : (k : ℕ) (P : Port A) (cs : List (Call A)) → total f (port_turns R S k P (map (share k) cs)) ≡ total f (port_turns R S k P (mine k cs))
    total-mine k P [] = refl
    total-mine k P (c ∷ cs) = total-noted k (share k c) P (map (share k) cs) (mine k cs) (total-mine k (turn R S k (share k c) P).port cs)

    ledgers : (out : Ledger A → ℕ) → ((k n : ℕ) (cs : List (PortCall A)) → out (ledger_run R S k (fresh_ledger n) cs) ≡ total f (port_turns R S k (fresh_port n) cs))
        → (k : ℕ) (ns : List ℕ) (cs : List (Call A)) → grand_total f (ports_turns k (map fresh_port ns) cs) ≡ ledgers_total R out S k ns cs
    ledgers out e k [] cs = none-total k cs
    ledgers out e k (n ∷ ns) cs =
        omega (arith, split-total k (fresh_port n) (map fresh_port ns) cs, total-mine k (fresh_port n) cs, e k n (mine k cs), ledgers out e (suc k) ns cs)

module _ {A : Type 0} (R : Reads A) where
  book-ports-turns : (f : Turn A → List A) (B : Book A) (cs : List (Call A)) → grand_total f (book_turns R B cs) ≡ grand_total f (ports_turns R B.site f 1 B.ports cs)
  unfolding turns after
  book-ports-turns f B [] = refl
  book-ports-turns f B (c ∷ cs) = ap (λ (n : ℕ). total f (turns R c B) + n) (book-ports-turns f (after R c B) cs)

  -- what all calls since a fresh start reported, and what the ledgers of all ports name
  pub record BookTallied (s : Since A) : Type 0 where
    pub accepted : grand_total (λ T. T.taken) (book_turns R (begun s) s.calls) ≡ ledgers_total R (λ L. L.accepted) s.site 1 s.intervals s.calls
    pub evicted : grand_total (λ T. T.evicted) (book_turns R (begun s) s.calls) ≡ ledgers_total R (λ L. length L.evicted) s.site 1 s.intervals s.calls
    pub aged_out : grand_total (λ T. T.aged_out) (book_turns R (begun s) s.calls) ≡ ledgers_total R (λ L. length L.aged_out) s.site 1 s.intervals s.calls
    pub consumed : grand_total (λ T. T.consumed) (book_turns R (begun s) s.calls) ≡ ledgers_total R (λ L. length L.consumed) s.site 1 s.intervals s.calls

  -- The tallies count exactly the messages named gone.
  pub book-tallied : (s : Since A) → BookTallied s
  book-tallied s =
      let B = begun s in
      let S = s.site in
      let ns = s.intervals in
      let cs = s.calls in
      record {
        accepted = book-ports-turns (λ T. T.taken) B cs ∙ ledgers R S (λ T. T.taken) (λ P. refl) (λ L. L.accepted) (λ k n cs. (tallied R S k n cs).accepted) 1 ns cs;
        evicted = book-ports-turns (λ T. T.evicted) B cs ∙ ledgers R S (λ T. T.evicted) (λ P. refl) (λ L. length L.evicted) (λ k n cs. (tallied R S k n cs).evicted) 1 ns cs;
        aged_out = book-ports-turns (λ T. T.aged_out) B cs ∙ ledgers R S (λ T. T.aged_out) (λ P. refl) (λ L. length L.aged_out) (λ k n cs. (tallied R S k n cs).aged_out) 1 ns cs;
        consumed = book-ports-turns (λ T. T.consumed) B cs ∙ ledgers R S (λ T. T.consumed) (λ P. refl) (λ L. length L.consumed) (λ k n cs. (tallied R S k n cs).consumed) 1 ns cs;
      }
