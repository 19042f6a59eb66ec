-- Histories: fresh starts, registrations, ageings and decisions in any order, and what they do to a book and to one port of it.
-- Assumes nothing.
use Rattle.std.specs.Prelude.{cond, List, [], ◌∷◌, ◌++◌, ℕ, suc, ◌+◌}
use Rattle.std.proofs.Math.Option.{Option, none, some}
use Rattle.std.proofs.Math.ListN.{get_elem?}
use Rattle.choice.specs.declared.BestAnnounceMessage.{BestAnnounceMessage}
use Rattle.history.specs.Port.{Reads, Site, Port, Turn, PortCall, idle, hear, pass, judge, turn, receiver, candidates}
use Rattle.history.specs.Book.{Book, Call, fresh_book, share, turns, after}
use Rattle.history.specs.Sound.{startable}

-- one call of a history, with its arguments: a fresh start, or a registration, an ageing or a decision
pub data Event (A : Type 0) : Type 0 where
  start : Site → List ℕ → Event A
  call : Call A → Event A

-- a fresh start and the calls since
pub record Since (A : Type 0) : Type 0 where
  pub site : Site
  pub intervals : List ℕ
  pub calls : List (Call A)

module _ {A : Type 0} where
  -- a fresh start that is taken forgets all before it, one that is refused changes nothing
  abbrev pub since_after : Option (Since A) → Event A → Option (Since A)
  since_after s (start S ns) = cond (startable S.listed ns) (some (record { site = S; intervals = ns; calls = [] })) s
  since_after none (call c) = none
  since_after (some s) (call c) = some (record { site = s.site; intervals = s.intervals; calls = s.calls ++ (c ∷ []) })

  abbrev pub since_from : Option (Since A) → List (Event A) → Option (Since A)
  since_from s [] = s
  since_from s (e ∷ es) = since_from (since_after s e) es

  -- the last fresh start of a history that was taken, and the calls since; none before the first
  abbrev pub since : List (Event A) → Option (Since A)
  since es = since_from none es

  -- the book at that fresh start
  abbrev pub begun : Since A → Book A
  begun s = fresh_book s.site s.intervals

  -- x noted unless the call is nothing to the port
  abbrev pub noted : {X : Type 0} → PortCall A → X → List X → List X
  noted idle x xs = xs
  noted (hear f) x xs = x ∷ xs
  noted (pass step) x xs = x ∷ xs
  noted judge x xs = x ∷ xs

  -- the calls that are something to port k: its own frames, the ageing and the decisions
  abbrev pub mine : ℕ → List (Call A) → List (PortCall A)
  mine k [] = []
  mine k (c ∷ cs) = noted (share k c) (share k c) (mine k cs)

module _ {A : Type 0} (R : Reads A) where
  -- the book after one call of a history, and after all: a fresh start that is refused leaves the book
  abbrev pub step : Event A → Book A → Book A
  step (start S ns) B = cond (startable S.listed ns) (fresh_book S ns) B
  step (call c) B = after R c B

  abbrev pub run_all : Book A → List (Event A) → Book A
  run_all B [] = B
  run_all B (e ∷ es) = run_all (step e B) es

  -- between two fresh starts: the book at the end, and what each call did to each port
  abbrev pub run : Book A → List (Call A) → Book A
  run B [] = B
  run B (c ∷ cs) = run (after R c B) cs

  abbrev pub book_turns : Book A → List (Call A) → List (List (Turn A))
  book_turns B [] = []
  book_turns B (c ∷ cs) = turns R c B ∷ book_turns (after R c B) cs

  -- what the calls that are something to port 1 + i did to it: lists, registration answers, Erbests, messages gone
  abbrev pub reports : ℕ → Book A → List (Call A) → List (Option (Turn A))
  reports i B [] = []
  reports i B (c ∷ cs) = noted (share (1 + i) c) (get_elem? (turns R c B) i) (reports i (after R c B) cs)

  -- port k alone: its turns, and the port at the end
  abbrev pub port_turns : Site → ℕ → Port A → List (PortCall A) → List (Turn A)
  port_turns S k P [] = []
  port_turns S k P (c ∷ cs) = turn R S k c P ∷ port_turns S k (turn R S k c P).port cs

  abbrev pub port_run : Site → ℕ → Port A → List (PortCall A) → Port A
  port_run S k P [] = P
  port_run S k P (c ∷ cs) = port_run S k (turn R S k c P).port cs

  -- the candidates of ports numbered from k, and of a book, port 1 first
  abbrev pub candidates_from : Site → ℕ → List (Port A) → List (List BestAnnounceMessage)
  candidates_from S k [] = []
  candidates_from S k (P ∷ Ps) = candidates R (receiver S k) P.masters ∷ candidates_from S (suc k) Ps

  abbrev pub candidates_of : Book A → List (List BestAnnounceMessage)
  candidates_of B = candidates_from B.site 1 B.ports
