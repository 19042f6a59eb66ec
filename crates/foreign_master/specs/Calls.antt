-- What the three calls answer, and every word of the store afterwards. A refusal changes no word.
-- Assumes nothing.
use Rattle.std.specs.Prelude.{ℕ, ◌-◌, cond, List, ltb, length, Result, Ok, Err}
use Rattle.wire.specs.Refusal.{on_zero}
use Rattle.announce.specs.declared.AnnounceMessage.{AnnounceMessage}
use Rattle.refused.specs.declared.Refusal.{Refusal}
use Rattle.refused.specs.Refusal.{number_of, refused}
use Rattle.frame.specs.declared.Message.{Message}
use Rattle.frame.specs.Frame.{read_frame}
use Rattle.slot.specs.declared.ForeignAnnounceMessage.{ForeignAnnounceMessage}
use Rattle.history.specs.Port.{Site, Turn, Frame, bad, announce}
use Rattle.history.specs.Book.{Book, Call, register, age, number, turns, total}
use Rattle.history.specs.Sound.{startable}
use Rattle.book.specs.Layout.{store_words, book_of, reads}
use Rattle.book.specs.Rules.{store_refusal}
use Rattle.admission.specs.Admit.{registered_in}
use Rattle.ageing.specs.Age.{aged_store}
use Rattle.fresh.specs.Fresh.{begun}
use Rattle.foreign_master.specs.declared.Tallies.{Tallies}

-- ---- the answers

-- the tallies count the messages that the ports' turns name
abbrev pub tallies_of : List (Turn ForeignAnnounceMessage) → Tallies
tallies_of Ts =
    record { evicted = total (λ T. T.evicted) Ts; aged_out = total (λ T. T.aged_out) Ts; consumed = total (λ T. T.consumed) Ts }

-- what a call answers over a book
unfoldable pub answer_to : Call ForeignAnnounceMessage → Book ForeignAnnounceMessage → Result Tallies Refusal
answer_to c B = on_zero (number c (turns reads c B)) (Ok (tallies_of (turns reads c B))) refused

-- over a store: 1 and 16 come first
unfoldable pub answer_in : List ℕ → Call ForeignAnnounceMessage → Result Tallies Refusal
answer_in s c = on_zero (store_refusal s) (answer_to c (book_of s)) refused

-- ---- every word afterwards: where nothing is refused, those of the work

unfoldable pub exit_in : List ℕ → Call ForeignAnnounceMessage → List ℕ → List ℕ
exit_in s c work = on_zero (store_refusal s) (on_zero (number c (turns reads c (book_of s))) work (λ _. s)) (λ _. s)

-- ---- fresh start: 1, then 14

unfoldable pub fresh_answer : List ℕ → Site → List ℕ → ℕ
fresh_answer s S ns = cond (ltb (length s) store_words) 1 (cond (startable S.listed ns) 0 14)

unfoldable pub fresh_exit : List ℕ → Site → List ℕ → List ℕ
fresh_exit s S ns = on_zero (fresh_answer s S ns) (begun S ns s) (λ _. s)

-- ---- register

-- an announce as it comes in: of age 0
abbrev pub held_of : AnnounceMessage → ForeignAnnounceMessage
held_of a = record { message = a; age = 0; receipt = 0 }

-- the frame as it was read
abbrev pub frame_of : Result Message Refusal → Frame ForeignAnnounceMessage
frame_of (Ok m) = announce (held_of m.announce)
frame_of (Err e) = bad (number_of e)

abbrev pub register_call : ℕ → List ℕ → Call ForeignAnnounceMessage
register_call port frame = register port (frame_of (read_frame frame))

-- the words with the announce taken in
abbrev pub taken_in : List ℕ → ℕ → Frame ForeignAnnounceMessage → List ℕ
taken_in s port (bad n) = s
taken_in s port (announce m) = registered_in s (port - 1) m

abbrev pub register_answer : List ℕ → ℕ → List ℕ → Result Tallies Refusal
register_answer s port frame = answer_in s (register_call port frame)

abbrev pub register_exit : List ℕ → ℕ → List ℕ → List ℕ
register_exit s port frame = exit_in s (register_call port frame) (taken_in s port (frame_of (read_frame frame)))

-- ---- age

abbrev pub age_answer : List ℕ → ℕ → Result Tallies Refusal
age_answer s step = answer_in s (age step)

abbrev pub age_exit : List ℕ → ℕ → List ℕ
age_exit s step = exit_in s (age step) (aged_store step s)
