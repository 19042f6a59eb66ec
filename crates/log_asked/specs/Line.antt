-- The lines of paper 01's log program: what a line asks, what it answers, and what is set up and stored afterwards.
-- Assumes nothing.
use Rattle.std.specs.Prelude.{ℕ, ◌%◌, cond, ◌&&◌, List, [], ◌∷◌, eqb, leb, ltb, length, get_or}
use Rattle.std.proofs.Math.Option.{Option, none}
use Rattle.std.proofs.lemmas.List.Edits.{sets}
use Rattle.hex_line.specs.Hex.{pairs_of, missed}
use Rattle.log_answer.specs.declared.Setup.{Setup}
use Rattle.log_answer.specs.declared.Answered.{Answered}
use Rattle.log_answer.specs.Answer.{Asked, text_of, store_of, out_of, answered_of, answer_bytes}
use Rattle.log_setup.specs.Start.{start_asked}
use Rattle.log_call.specs.Call.{frame_asked, step_asked}
use Rattle.log_decision.specs.Call.{decision_asked}

-- ---- what a line of bytes asks

-- a line whose first byte is not 0, once there was a good setup
unfoldable pub kind_asked : ℕ → Setup → List ℕ → Option Asked
kind_asked kind setup line =
    cond (eqb kind 1) (frame_asked setup line)
    (cond (eqb kind 2) (step_asked setup line)
    (cond (eqb kind 3) (decision_asked setup line) none))

-- any line of bytes; none: it has the wrong shape, or comes before a first good setup
unfoldable pub asked_of : Setup → List ℕ → Option Asked
asked_of setup line =
    cond (eqb (length line) 0) none
    (cond (eqb (get_or line 0 0) 0) (start_asked line)
    (cond (eqb setup.ports 0) none (kind_asked (get_or line 0 0) setup line)))

-- ---- a line of digits: at most 4,096, an even number, of either case, no other byte
unfoldable pub asked : Setup → List ℕ → Option Asked
asked setup line =
    cond (leb (length line) 4096 && (eqb (length line % 2) 0 && eqb (missed line) 0)) (asked_of setup (pairs_of line)) none

-- ---- the call: nothing is done where there is no room for the longest answer

unfoldable pub line_answered : Setup → (line s out : List ℕ) → Answered
line_answered setup line s out = cond (ltb (length out) answer_bytes) (record { setup = setup; count = 0 }) (answered_of (asked setup line) setup s)

unfoldable pub line_store : Setup → (line s out : List ℕ) → List ℕ
line_store setup line s out = cond (ltb (length out) answer_bytes) s (store_of (asked setup line) s)

unfoldable pub line_out : Setup → (line s out : List ℕ) → List ℕ
line_out setup line s out = cond (ltb (length out) answer_bytes) out (out_of (asked setup line) s out)

-- of a line that is too long nothing is kept
unfoldable pub none_answered : Setup → (out : List ℕ) → Answered
none_answered setup out = cond (ltb (length out) answer_bytes) (record { setup = setup; count = 0 }) (record { setup = setup; count = 3 })

unfoldable pub none_out : (out : List ℕ) → List ℕ
none_out out = cond (ltb (length out) answer_bytes) out (sets out 0 (text_of (17 ∷ [])))
