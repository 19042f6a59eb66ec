-- The real calls on a lent store, each by its contract, and histories of them.
-- Assumes nothing.
use Rattle.std.specs.Prelude.{ℕ, ◌+◌, ◌≡◌, Bool, cond, List, [], ◌∷◌, eqb, take, Option, None, Result, Ok, Err}
use Rattle.wire.specs.Be.{Bytes}
use Rattle.refused.specs.declared.Refusal.{Refusal}
use Rattle.refused.specs.Refusal.{answer_of}
use Rattle.announce.specs.declared.ClockQuality.{ClockQuality}
use Rattle.choice.specs.declared.BestAnnounceMessage.{BestAnnounceMessage}
use Rattle.choice.specs.Choice.{All}
use Rattle.states.specs.declared.PortAnswer.{PortAnswer}
use Rattle.slot.specs.declared.ForeignAnnounceMessage.{ForeignAnnounceMessage}
use Rattle.history.specs.Port.{PortCall, idle, judge}
use Rattle.history.specs.Book.{Call, age, share}
use Rattle.histories.specs.History.{Event, start, call, noted}
use Rattle.book.specs.Layout.{book_of}
use Rattle.fresh.specs.Fresh.{site_with}
use Rattle.foreign_master.specs.declared.Tallies.{Tallies}
use Rattle.foreign_master.specs.Calls.{fresh_answer, fresh_exit, register_call, register_answer, register_exit, age_answer, age_exit}
use Rattle.bmca.specs.declared.Decision.{Decision}
use Rattle.bmca.specs.Decide.{decide_call, decide_answer, decide_exit, erbest_at}

-- ---- a call

-- the calls `fresh_start`, `register_announce_message`, `step_age` and `decide` on one store, with their other arguments
pub data StoreCall : Type 0 where
  fresh_start : (own : ℕ) (any : Bool) (listed intervals : List ℕ) → StoreCall
  register_frame : (port : ℕ) (frame : List ℕ) → StoreCall
  step_age : (step : ℕ) → StoreCall
  decide : (p₁ : ℕ) (quality : ClockQuality) (p₂ listening : ℕ) → StoreCall

-- what the types of the arguments give, as far as a law needs it: a frame is of bytes
abbrev pub Wired : StoreCall → Type 0
Wired (fresh_start own any listed intervals) = Unit
Wired (register_frame port frame) = Bytes frame
Wired (step_age step) = Unit
Wired (decide p₁ quality p₂ listening) = Unit

-- every word of the store afterwards
abbrev pub exit_of : StoreCall → List ℕ → List ℕ
exit_of (fresh_start own any listed intervals) s = fresh_exit s (site_with own any listed) intervals
exit_of (register_frame port frame) s = register_exit s port frame
exit_of (step_age step) s = age_exit s step
exit_of (decide p₁ quality p₂ listening) s = decide_exit s

-- paper 01's number of the answer
abbrev pub number_of : StoreCall → List ℕ → ℕ
number_of (fresh_start own any listed intervals) s = fresh_answer s (site_with own any listed) intervals
number_of (register_frame port frame) s = (answer_of (register_answer s port frame)).0
number_of (step_age step) s = (answer_of (age_answer s step)).0
number_of (decide p₁ quality p₂ listening) s = (answer_of (decide_answer s p₁ quality p₂ listening)).0

-- the tallies of a call that reports none
abbrev pub no_tallies : Tallies
no_tallies = record { evicted = 0; aged_out = 0; consumed = 0 }

-- the tallies that an answer holds
abbrev pub tallies_in : Result Tallies Refusal → Tallies
tallies_in (Ok t) = t
tallies_in (Err e) = no_tallies

-- the tallies and the answers of the ports that there are, of a decision
abbrev pub consumed_in : Result Decision Refusal → Tallies
consumed_in (Ok d) = d.tallies
consumed_in (Err e) = no_tallies

abbrev pub answers_in : Result Decision Refusal → List PortAnswer
answers_in (Ok d) = take d.ports d.answers
answers_in (Err e) = []

-- the tallies of the answer: none for a refusal and for a fresh start
abbrev pub tallies_to : StoreCall → List ℕ → Tallies
tallies_to (fresh_start own any listed intervals) s = no_tallies
tallies_to (register_frame port frame) s = tallies_in (register_answer s port frame)
tallies_to (step_age step) s = tallies_in (age_answer s step)
tallies_to (decide p₁ quality p₂ listening) s = consumed_in (decide_answer s p₁ quality p₂ listening)

-- the states that the call recommends, port 1 first
abbrev pub answers_to : StoreCall → List ℕ → List PortAnswer
answers_to (fresh_start own any listed intervals) s = []
answers_to (register_frame port frame) s = []
answers_to (step_age step) s = []
answers_to (decide p₁ quality p₂ listening) s = answers_in (decide_answer s p₁ quality p₂ listening)

-- 1 for a registration that is accepted: it answers 0
abbrev pub accepting : StoreCall → List ℕ → ℕ
accepting (fresh_start own any listed intervals) s = 0
accepting (register_frame port frame) s = cond (eqb (number_of (register_frame port frame) s) 0) 1 0
accepting (step_age step) s = 0
accepting (decide p₁ quality p₂ listening) s = 0

-- no fresh start that is taken: it is another call, or does not answer 0
abbrev pub Going : StoreCall → List ℕ → Type 0
Going (fresh_start own any listed intervals) s = number_of (fresh_start own any listed intervals) s ≡ 0 → ⊥
Going (register_frame port frame) s = Unit
Going (step_age step) s = Unit
Going (decide p₁ quality p₂ listening) s = Unit

-- the same call on the book that the store holds; in a decision our own data have the book's identity
abbrev pub event_at : List ℕ → StoreCall → Event ForeignAnnounceMessage
event_at s (fresh_start own any listed intervals) = start (site_with own any listed) intervals
event_at s (register_frame port frame) = call (register_call port frame)
event_at s (step_age step) = call (age step)
event_at s (decide p₁ quality p₂ listening) = call (decide_call (book_of s) p₁ quality p₂ listening)

-- what a call is to port k: its own frame, an ageing that is taken, a decision
abbrev pub share_of : ℕ → StoreCall → PortCall ForeignAnnounceMessage
share_of k (fresh_start own any listed intervals) = idle
share_of k (register_frame port frame) = share k (register_call port frame)
share_of k (step_age step) = share k (age step)
share_of k (decide p₁ quality p₂ listening) = judge

-- what a call reports of a port: its number, and in a decision the port's Erbest
pub record Report : Type 0 where
  pub answer : ℕ
  pub erbest : Option BestAnnounceMessage

-- the Erbest that a call finds for port 1 + i
abbrev pub erbest_in : ℕ → StoreCall → List ℕ → Option BestAnnounceMessage
erbest_in i (fresh_start own any listed intervals) s = None
erbest_in i (register_frame port frame) s = None
erbest_in i (step_age step) s = None
erbest_in i (decide p₁ quality p₂ listening) s = erbest_at s i

-- the two together
abbrev pub report_of : ℕ → StoreCall → List ℕ → Report
report_of i c s = record { answer = number_of c s; erbest = erbest_in i c s }

-- ---- histories: a store's words, and the calls in their order

-- every word at the end
abbrev pub run_store : List ℕ → List StoreCall → List ℕ
run_store s [] = s
run_store s (c ∷ cs) = run_store (exit_of c s) cs

-- no fresh start is taken
abbrev pub Lasting : List ℕ → List StoreCall → Type 0
Lasting s [] = Unit
Lasting s (c ∷ cs) = Going c s × Lasting (exit_of c s) cs

-- A fresh start that is taken, on any words s, and calls after it of which none is a fresh start that is taken.
pub record Stretch (own : ℕ) (any : Bool) (listed intervals s : List ℕ) (cs : List StoreCall) : Type 0 where
  pub taken : number_of (fresh_start own any listed intervals) s ≡ 0
  pub wired : All Wired cs
  pub lasting : Lasting (exit_of (fresh_start own any listed intervals) s) cs

-- a tally over all answers
abbrev pub tallied : (Tallies → ℕ) → List ℕ → List StoreCall → ℕ
tallied f s [] = 0
tallied f s (c ∷ cs) = f (tallies_to c s) + tallied f (exit_of c s) cs

-- how many registrations were accepted
abbrev pub accepted_in : List ℕ → List StoreCall → ℕ
accepted_in s [] = 0
accepted_in s (c ∷ cs) = accepting c s + accepted_in (exit_of c s) cs

-- the calls that are something to port k
abbrev pub mine_of : ℕ → List StoreCall → List (PortCall ForeignAnnounceMessage)
mine_of k [] = []
mine_of k (c ∷ cs) = noted (share_of k c) (share_of k c) (mine_of k cs)

-- what those that are something to port 1 + i report of it
abbrev pub reports_of : ℕ → List ℕ → List StoreCall → List Report
reports_of i s [] = []
reports_of i s (c ∷ cs) = noted (share_of (1 + i) c) (report_of i c s) (reports_of i (exit_of c s) cs)

-- the same history of the book
abbrev pub events_of : List ℕ → List StoreCall → List (Event ForeignAnnounceMessage)
events_of s [] = []
events_of s (c ∷ cs) = event_at s c ∷ events_of (exit_of c s) cs

-- an event before calls on a book: a fresh start is none of them
abbrev pub follow : Event ForeignAnnounceMessage → List (Call ForeignAnnounceMessage) → List (Call ForeignAnnounceMessage)
follow (start S ns) cs = cs
follow (call c) cs = c ∷ cs

-- the calls of a history in which no fresh start is taken
abbrev pub calls_of : List ℕ → List StoreCall → List (Call ForeignAnnounceMessage)
calls_of s [] = []
calls_of s (c ∷ cs) = follow (event_at s c) (calls_of (exit_of c s) cs)
