-- The ledger of a port: the port with a number on every message, given at its registration, and the numbers of the messages that are gone.
-- Assumes nothing.
use Rattle.std.specs.Prelude.{◌≡◌, cond, List, [], ◌∷◌, ◌++◌, map, ℕ, suc, ◌+◌, ltb, eqb, length}
use Rattle.history.specs.Port.{Reads, Master, Port, Site, Turn, held_by, Frame, bad, announce, PortCall, idle, hear, pass, judge, turn}
use Rattle.history.specs.Book.{Call, fresh_port, total}
use Rattle.histories.specs.History.{Since, mine}

-- a message with its number
pub record Numbered (A : Type 0) : Type 0 where
  pub serial : ℕ
  pub body : A

-- the rules read the message and not its number
abbrev pub numbered_reads : {A : Type 0} → Reads A → Reads (Numbered A)
numbered_reads R =
    record {
      message = λ a. R.message a.body;
      age = λ a. R.age a.body;
      aged = λ a n. record { serial = a.serial; body = R.aged a.body n };
    }

module _ {A : Type 0} where
  -- the numbers of messages, and the messages without them
  abbrev pub serials : List (Numbered A) → List ℕ
  serials xs = map (λ (a : Numbered A). a.serial) xs

  abbrev pub bodies : List (Numbered A) → List A
  bodies xs = map (λ (a : Numbered A). a.body) xs

  -- a master, a port and a turn, the numbers forgotten
  abbrev pub plain_master : Master (Numbered A) → Master A
  plain_master M = record { source = M.source; messages = bodies M.messages }

  abbrev pub plain_port : Port (Numbered A) → Port A
  plain_port P = record { interval = P.interval; masters = map plain_master P.masters }

  unfoldable pub plain_turn : Turn (Numbered A) → Turn A
  plain_turn T =
      record {
        port = plain_port T.port;
        answer = T.answer;
        best = T.best;
        taken = bodies T.taken;
        evicted = bodies T.evicted;
        aged_out = bodies T.aged_out;
        consumed = bodies T.consumed;
      }

  -- a call whose announce has number n
  abbrev pub stamp_frame : ℕ → Frame A → Frame (Numbered A)
  stamp_frame n (bad x) = bad x
  stamp_frame n (announce m) = announce (record { serial = n; body = m })

  abbrev pub stamp : ℕ → PortCall A → PortCall (Numbered A)
  stamp n idle = idle
  stamp n (hear f) = hear (stamp_frame n f)
  stamp n (pass step) = pass step
  stamp n judge = judge

-- a number's entries in a list
abbrev pub times : ℕ → List ℕ → ℕ
times x [] = 0
times x (y ∷ ys) = cond (eqb y x) 1 0 + times x ys

-- how many registrations have been accepted, and where each is now
pub record Ledger (A : Type 0) : Type 0 where
  pub port : Port (Numbered A)
  pub accepted : ℕ
  pub evicted : List ℕ
  pub aged_out : List ℕ
  pub consumed : List ℕ

-- of a fresh port
abbrev pub fresh_ledger : {A : Type 0} → ℕ → Ledger A
fresh_ledger interval = record { port = fresh_port interval; accepted = 0; evicted = []; aged_out = []; consumed = [] }

module _ {A : Type 0} where
  -- a turn entered
  unfoldable pub entered : Turn (Numbered A) → Ledger A → Ledger A
  entered T L =
      record {
        port = T.port;
        accepted = length T.taken + L.accepted;
        evicted = serials T.evicted ++ L.evicted;
        aged_out = serials T.aged_out ++ L.aged_out;
        consumed = serials T.consumed ++ L.consumed;
      }

  -- the numbers held
  abbrev pub held : Ledger A → List ℕ
  held L = serials (held_by L.port.masters)

  -- a number's entries everywhere
  abbrev pub entries : ℕ → Ledger A → ℕ
  entries x L = times x (held L) + times x L.evicted + times x L.aged_out + times x L.consumed

  -- each number given is in exactly one place, and no other number is anywhere
  abbrev pub Placed : Ledger A → Type 0
  Placed L = (x : ℕ) → entries x L ≡ cond (ltb x L.accepted) 1 0

  -- turns whose tallies are what the ledger names
  pub record Tallied (L : Ledger A) (Ts : List (Turn A)) : Type 0 where
    pub accepted : L.accepted ≡ total (λ T. T.taken) Ts
    pub evicted : length L.evicted ≡ total (λ T. T.evicted) Ts
    pub aged_out : length L.aged_out ≡ total (λ T. T.aged_out) Ts
    pub consumed : length L.consumed ≡ total (λ T. T.consumed) Ts

module _ {A : Type 0} (R : Reads A) (S : Site) (k : ℕ) where
  -- port k with numbered messages at a call; the next number is how many have been accepted
  abbrev pub ledger_turn : PortCall A → Ledger A → Turn (Numbered A)
  ledger_turn c L = turn (numbered_reads R) S k (stamp L.accepted c) L.port

  abbrev pub ledger_run : Ledger A → List (PortCall A) → Ledger A
  ledger_run L [] = L
  ledger_run L (c ∷ cs) = ledger_run (entered (ledger_turn c L) L) cs

module _ {A : Type 0} (R : Reads A) where
  -- the ledger of port 1 + i, which has this interval, since a fresh start
  abbrev pub ledger_of : Since A → ℕ → ℕ → Ledger A
  ledger_of s i interval = ledger_run R s.site (1 + i) (fresh_ledger interval) (mine (1 + i) s.calls)

  -- what the ledgers of all ports of a book say together, numbered from k, after calls from a fresh start with these intervals
  abbrev pub ledgers_total : (Ledger A → ℕ) → Site → ℕ → List ℕ → List (Call A) → ℕ
  ledgers_total out S k [] cs = 0
  ledgers_total out S k (n ∷ ns) cs = out (ledger_run R S k (fresh_ledger n) (mine k cs)) + ledgers_total out S (suc k) ns cs

-- a tally over the turns of several calls
abbrev pub grand_total : {A : Type 0} → (Turn A → List A) → List (List (Turn A)) → ℕ
grand_total f [] = 0
grand_total f (Ts ∷ Tss) = total f Ts + grand_total f Tss
