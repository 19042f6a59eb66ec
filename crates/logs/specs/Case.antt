-- The whole case of paper 01's log program, computed: its input, spaces left out, and its output.
-- Assumes nothing.
use Rattle.std.specs.Prelude.{ℕ, ◌≡◌, Bool, cond, List, [], ◌∷◌, ◌++◌}
use Rattle.std.proofs.Common.{ap}
use Rattle.wire.specs.Be.{be_at, bytes_of}
use Rattle.message_type.specs.Types.{type_of}
use Rattle.header.specs.Wire.{header_with, header_of}
use Rattle.announce.specs.Example.{F}
use Rattle.announce.specs.Example as example
use Rattle.announce.specs.Wire.{announce_with, announce_of, reserved_of}
use Rattle.tlv.specs.Tlv.{entry_at, list_check}
use Rattle.frame.specs.Frame.{refusal_of, frame_refusal, read_frame}
use Rattle.same.specs.Same.{same_port}
use Rattle.order.specs.Order.{cmp, lex}
use Rattle.compare.specs.Dataset.{figure34, figure35, compare_of}
use Rattle.choice.specs.declared.BestAnnounceMessage.{BestAnnounceMessage}
use Rattle.choice.specs.Candidate.{ranking, stays, winner}
use Rattle.choice.specs.Choice.{from, choose}
use Rattle.decision.specs.declared.RecommendedState.TheVariants.{M3, S1}
use Rattle.decision.specs.Answer.{number_of}
use Rattle.decision.proofs.Reasons.{same-best-refl}
use Rattle.decision.specs.State.{global_and_port, low, state_of}
use Rattle.states.specs.Ports.{ebest_of, answers_from}
use Rattle.history.specs.Book.{number, turns, after}
use Rattle.history.specs.Port.{push, put_out, accepts, refusal, register_port, remaining, leaving, age_port, chosen, decide_port}
use Rattle.history.specs.Sound.{startable}
use Rattle.slot.specs.Slot.{aged}
use Rattle.hex_line.specs.Hex.{digit_of, upper_of, hex_all, pairs_of, missed}
use Rattle.lines.specs.Lines.{lines_of}
use Rattle.log_setup.specs.Start.{setup_at, intervals_at, start_asked}
use Rattle.log_call.specs.Call.{frame_asked, step_asked}
use Rattle.log_decision.specs.Call.{decision_asked}
use Rattle.log_asked.specs.Line.{kind_asked, asked_of, asked}
use Rattle.log_answer.specs.Answer.{text_of}
use Rattle.logs.specs.Log.{log_of}

-- a line of bytes as the log has it: upper-case digits and LF
abbrev typed : List ℕ → List ℕ
typed bytes = hex_all bytes ++ (10 ∷ [])

-- `00 02 000000000000000A 80 F8 FE FFFF 80 00003B9ACA000000 00003B9ACA000000`
abbrev setup_line : List ℕ
setup_line =
    0 ∷ 2 ∷ 0 ∷ 0 ∷ 0 ∷ 0 ∷ 0 ∷ 0 ∷ 0 ∷ 10 ∷ 128 ∷ 248 ∷ 254 ∷ 255 ∷ 255 ∷ 128
    ∷ 0 ∷ 0 ∷ 59 ∷ 154 ∷ 202 ∷ 0 ∷ 0 ∷ 0 ∷ 0 ∷ 0 ∷ 59 ∷ 154 ∷ 202 ∷ 0 ∷ 0 ∷ 0 ∷ []

-- `01 01 F(n)`
abbrev frame_line : ℕ → List ℕ
frame_line n = 1 ∷ 1 ∷ F n

-- the input: `03 03`, two frames, `03 03`, `03 00`, `02 0000EE6B28000000`, `03 00` follow the setup
abbrev pub case_input : List ℕ
case_input =
    typed setup_line
    ++ typed (3 ∷ 3 ∷ [])
    ++ typed (frame_line 1)
    ++ typed (frame_line 2)
    ++ typed (3 ∷ 3 ∷ [])
    ++ typed (3 ∷ 0 ∷ [])
    ++ typed (2 ∷ 0 ∷ 0 ∷ 238 ∷ 107 ∷ 40 ∷ 0 ∷ 0 ∷ 0 ∷ [])
    ++ typed (3 ∷ 0 ∷ [])

-- the output: `00`, `000000`, `00`, `00`, `000600`, `000603`, `00`, `000202`
abbrev output_with : ℕ → List ℕ
output_with state =
    typed (0 ∷ [])
    ++ typed (0 ∷ 0 ∷ 0 ∷ [])
    ++ typed (0 ∷ [])
    ++ typed (0 ∷ [])
    ++ typed (0 ∷ state ∷ 0 ∷ [])
    ++ typed (0 ∷ state ∷ 3 ∷ [])
    ++ typed (0 ∷ [])
    ++ typed (0 ∷ 2 ∷ 2 ∷ [])

abbrev pub case_output : List ℕ
case_output = output_with 6

-- the best message of port 1 in both decisions that have one: F(2), as it came in
abbrev best : BestAnnounceMessage
best = record { message = example.message 2; age = 0; identity = record { clock_identity = 10; port_number = 1 } }

-- the state of port 1 in these: S1 where Ebest is its Erbest, which is the one step that does not compute by itself
abbrev slave : Bool → ℕ
slave same = number_of (cond same (S1 best.message) (M3 best.message))

-- the whole case
pub whole_case : log_of case_input ≡ case_output
unfolding be_at bytes_of type_of header_with header_of F announce_with announce_of reserved_of entry_at list_check refusal_of frame_refusal read_frame same_port cmp lex figure34 figure35 compare_of ranking stays winner from choose global_and_port low state_of ebest_of answers_from number turns after push put_out accepts refusal register_port remaining leaving age_port chosen decide_port startable aged digit_of upper_of hex_all pairs_of missed lines_of setup_at intervals_at start_asked frame_asked step_asked decision_asked kind_asked asked_of asked text_of log_of
whole_case = ap (λ (same : Bool). output_with (slave same)) (same-best-refl best)
