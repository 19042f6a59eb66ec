-- What a line of the log asks and answers, and what is set up and stored afterwards.
-- Assumes nothing.
use Rattle.std.specs.Prelude.{ℕ, ◌≡◌, List, [], ◌∷◌, ◌++◌, map, length}
use Rattle.std.proofs.Math.Option.{Option, none, some}
use Rattle.std.proofs.lemmas.List.Edits.{sets}
use Rattle.wire.specs.Refusal.{on_zero}
use Rattle.decision.specs.Answer as state
use Rattle.states.specs.declared.PortAnswer.{PortAnswer}
use Rattle.book.specs.Rules.{store_refusal}
use Rattle.hex_line.specs.Hex.{hex_all}
use Rattle.stored.specs.Calls.{StoreCall, exit_of, number_of, answers_to}
use Rattle.log_answer.specs.declared.Setup.{Setup}
use Rattle.log_answer.specs.declared.Answered.{Answered}

-- ---- what a line asks

-- a call on the store, and what is set up once it is done
pub record Asked : Type 0 where
  pub call : StoreCall
  pub setup : Setup

-- before the first good setup line: no port
abbrev pub no_setup : Setup
no_setup =
    record { ports = 0; priority_1 = 0; quality = record { clock_class = 0; clock_accuracy = 0; offset_scaled_log_variance = 0 }; priority_2 = 0 }

-- ---- what it answers

-- 00 stay, 01 M1, 02 M2, 03 M3, 04 P1, 05 P2, 06 S1
abbrev pub state_byte : PortAnswer → ℕ
state_byte answer = state.number_of answer.state

-- the bytes of the answer: the number, and for a decision a byte a port; 17 for a line of the wrong shape
abbrev pub told_of : Option Asked → List ℕ → List ℕ
told_of none s = 17 ∷ []
told_of (some a) s = number_of a.call s ∷ map state_byte (answers_to a.call s)

-- a line of upper-case digits, with its LF
unfoldable pub text_of : List ℕ → List ℕ
text_of bytes = hex_all bytes ++ (10 ∷ [])

-- what follows the number in a decision's answer
unfoldable pub states_text : List PortAnswer → List ℕ
states_text answers = hex_all (map state_byte answers) ++ (10 ∷ [])

-- ---- what holds afterwards

-- a setup that is refused keeps the old one
abbrev pub setup_of : Option Asked → Setup → List ℕ → Setup
setup_of none setup s = setup
setup_of (some a) setup s = on_zero (number_of a.call s) a.setup (λ _. setup)

-- every word of the store
abbrev pub store_of : Option Asked → List ℕ → List ℕ
store_of none s = s
store_of (some a) s = exit_of a.call s

-- the answer's line at the start of the output, and nothing else changed there
unfoldable pub out_of : Option Asked → List ℕ → List ℕ → List ℕ
out_of a s out = sets out 0 (text_of (told_of a s))

unfoldable pub answered_of : Option Asked → Setup → List ℕ → Answered
answered_of a setup s = record { setup = setup_of a setup s; count = length (text_of (told_of a s)) }

-- that a number is what the check answers of the store, once something is set up; with 0 the store is sound
abbrev pub Known : ℕ → Setup → List ℕ → Type 0
Known n setup s = (setup.ports ≡ 0 → ⊥) → n ≡ store_refusal s

-- what the code answers and leaves, where there is room for an answer
abbrev pub Answers : Option Asked → Setup → (s out : List ℕ) → Answered → (s' out' : List ℕ) → Type 0
Answers a setup s out r s' out' = (r ≡ answered_of a setup s) × (s' ≡ store_of a s) × (out' ≡ out_of a s out)

-- the longest answer: a number, eight states and LF
abbrev pub answer_bytes : ℕ
answer_bytes = 19
