-- Conservation as counts: as many registrations were accepted as messages are held, evicted, aged out and consumed.
-- Assumes nothing.
use Rattle.std.specs.Prelude.{cond, List, [], ◌∷◌, ℕ, ◌+◌, eqb}
use Rattle.std.proofs.Math.ListN.{length}
use Rattle.history.specs.Port.{Reads, Port, held_by, bad, announce}
use Rattle.history.specs.Book.{Book, Call, register, age, decide, number, turns, after}

-- ---- registrations accepted

module _ {A : Type 0} where
  -- 1 for an announce whose registration has the number 0
  abbrev pub accepting : Call A → ℕ → ℕ
  accepting (register q (bad n)) x = 0
  accepting (register q (announce m)) x = cond (eqb x 0) 1 0
  accepting (age step) x = 0
  accepting (decide own listening) x = 0

module _ {A : Type 0} (R : Reads A) where
  -- how many of the calls on a book
  abbrev pub accepted_by : Book A → List (Call A) → ℕ
  accepted_by B [] = 0
  accepted_by B (c ∷ cs) = accepting c (number c (turns R c B)) + accepted_by (after R c B) cs

-- ---- the balance

-- how many messages ports hold
abbrev pub held_in : {A : Type 0} → List (Port A) → ℕ
held_in [] = 0
held_in (P ∷ Ps) = length (held_by P.masters) + held_in Ps
