-- A book, and the calls on it: each port takes its own part of a call.
-- Assumes nothing.
use Rattle.std.specs.Prelude.{cond, List, [], ◌∷◌, map, ℕ, suc, ◌+◌, ltb, eqb, length}
use Rattle.compare.specs.declared.InternalDefaultDS.{InternalDefaultDS}
use Rattle.states.specs.declared.PortAnswer.{PortAnswer}
use Rattle.states.specs.Ports.{answers_of}
use Rattle.history.specs.Rules.{step_max}
use Rattle.history.specs.Port.{Site, Port, Turn, Reads, Frame, PortCall, idle, hear, pass, judge, turn}

pub record Book (A : Type 0) : Type 0 where
  pub site : Site
  pub ports : List (Port A)

-- the calls on a book between two fresh starts; ports are numbered from 1
pub data Call (A : Type 0) : Type 0 where
  register : ℕ → Frame A → Call A
  age : ℕ → Call A
  decide : InternalDefaultDS → ℕ → Call A

-- a fresh start: no master on any port
abbrev pub fresh_port : {A : Type 0} → ℕ → Port A
fresh_port interval = record { interval = interval; masters = [] }

abbrev pub fresh_book : {A : Type 0} → Site → List ℕ → Book A
fresh_book S intervals = record { site = S; ports = map fresh_port intervals }

module _ {A : Type 0} where
  -- what a call is to port k
  abbrev pub share : ℕ → Call A → PortCall A
  share k (register q f) = cond (eqb q k) (hear f) idle
  share k (age step) = cond (ltb step step_max) (pass step) idle
  share k (decide own listening) = judge

  -- the number of a registration: 6 where no port takes it
  abbrev pub answer_from : ℕ → ℕ → List (Turn A) → ℕ
  answer_from k q [] = 6
  answer_from k q (T ∷ Ts) = cond (eqb q k) T.answer (answer_from (suc k) q Ts)

  -- the number of a call, by the turns of its ports: 13 for a step that is too large
  unfoldable pub number : Call A → List (Turn A) → ℕ
  number (register q f) Ts = answer_from 1 q Ts
  number (age step) Ts = cond (ltb step step_max) 0 13
  number (decide own listening) Ts = 0

  -- the tallies
  abbrev pub total : (Turn A → List A) → List (Turn A) → ℕ
  total f [] = 0
  total f (T ∷ Ts) = length (f T) + total f Ts

  -- the states that a decision recommends, with what they carry; bit k - 1 of the byte is set if port k listens
  abbrev pub states_of : InternalDefaultDS → ℕ → List (Turn A) → List PortAnswer
  states_of own listening Ts = answers_of own listening (map (λ (T : Turn A). T.best) Ts)

module _ {A : Type 0} (R : Reads A) where
  -- every port at a call, numbered from k
  abbrev pub turns_from : Site → ℕ → Call A → List (Port A) → List (Turn A)
  turns_from S k c [] = []
  turns_from S k c (P ∷ Ps) = turn R S k (share k c) P ∷ turns_from S (suc k) c Ps

  unfoldable pub turns : Call A → Book A → List (Turn A)
  turns c B = turns_from B.site 1 c B.ports

  -- the book after a call
  unfoldable pub after : Call A → Book A → Book A
  after c B = record { site = B.site; ports = map (λ (T : Turn A). T.port) (turns c B) }
