-- Paper 01's log program as a function of its input: the book as lists, no store and no pieces.
-- Assumes nothing.
use Rattle.std.specs.Prelude.{ℕ, true, List, [], ◌∷◌, ◌++◌, map}
use Rattle.std.proofs.Math.Option.{Option, none, some}
use Rattle.wire.specs.Refusal.{on_zero}
use Rattle.slot.specs.declared.ForeignAnnounceMessage.{ForeignAnnounceMessage}
use Rattle.history.specs.Book.{Book, age, fresh_book}
use Rattle.histories.specs.History.{Event, start, call, step}
use Rattle.book.specs.Layout.{reads}
use Rattle.fresh.specs.Fresh.{site_with}
use Rattle.foreign_master.specs.Calls.{register_call}
use Rattle.bmca.specs.Decide.{decide_call}
use Rattle.stored.specs.Calls.{StoreCall, fresh_start, register_frame, step_age, decide}
use Rattle.stored.proofs.Views.{number_at, states_at}
use Rattle.lines.specs.Lines.{lines_of}
use Rattle.log_answer.specs.declared.Setup.{Setup}
use Rattle.log_answer.specs.Answer.{Asked, no_setup, state_byte, text_of}
use Rattle.log_asked.specs.Line.{asked}

-- a call, on a book
abbrev pub event_on : Book ForeignAnnounceMessage → StoreCall → Event ForeignAnnounceMessage
event_on B (fresh_start own any listed intervals) = start (site_with own any listed) intervals
event_on B (register_frame port frame) = call (register_call port frame)
event_on B (step_age step) = call (age step)
event_on B (decide p₁ quality p₂ listening) = call (decide_call B p₁ quality p₂ listening)

-- the bytes of the answer to a line: the number, and for a decision a byte a port; 17 for a line of the wrong shape
abbrev pub told_on : Option Asked → Book ForeignAnnounceMessage → List ℕ
told_on none B = 17 ∷ []
told_on (some a) B = number_at (event_on B a.call) B ∷ map state_byte (states_at (event_on B a.call) B)

-- what is set up afterwards, and the book
abbrev pub setup_on : Option Asked → Setup → Book ForeignAnnounceMessage → Setup
setup_on none setup B = setup
setup_on (some a) setup B = on_zero (number_at (event_on B a.call) B) a.setup (λ _. setup)

abbrev pub book_on : Option Asked → Book ForeignAnnounceMessage → Book ForeignAnnounceMessage
book_on none B = B
book_on (some a) B = step reads (event_on B a.call) B

-- the lines of the answers, one after the other
abbrev pub answers_of : Setup → Book ForeignAnnounceMessage → List (List ℕ) → List ℕ
answers_of setup B [] = []
answers_of setup B (l ∷ ls) = text_of (told_on (asked setup l) B) ++ answers_of (setup_on (asked setup l) setup B) (book_on (asked setup l) B) ls

-- before the first good setup there is no port
abbrev pub no_book : Book ForeignAnnounceMessage
no_book = fresh_book (site_with 0 true []) []

-- THE LOG PROGRAM: the bytes of its output, by those of its input
unfoldable pub log_of : List ℕ → List ℕ
log_of input = answers_of no_setup no_book (lines_of input)
