-- A frame, checked in the order of paper 01.
-- Assumes nothing.
use Rattle.std.specs.Prelude.{ℕ, ◌-◌, ◌%◌, List, cond, length, take, drop, eqb, leb, Option, Some, None, Result, Ok}
use Rattle.wire.specs.Be.{be_at}
use Rattle.wire.specs.Refusal.{on_zero}
use Rattle.refused.specs.declared.Refusal.{Refusal}
use Rattle.refused.specs.Refusal.{refused}
use Rattle.message_type.specs.declared.MessageType.{MessageType}
use Rattle.message_type.specs.Types.{type_of, type_number}
use Rattle.header.specs.Wire as header
use Rattle.announce.specs.Wire as announce
use Rattle.tlv.specs.Tlv.{check_list}
use Rattle.frame.specs.declared.Message.{Message}

-- the length field, and the TLVs: bytes 64 up to the length
abbrev pub size_at : List ℕ → ℕ
size_at s = be_at s 2 2

abbrev pub tlvs_at : List ℕ → List ℕ
tlvs_at s = take (size_at s - 64) (drop 64 s)

-- unknown type: 2; length field below 34: 3; above the bytes given: 1; no announce: 5; length below 64: 1
abbrev pub refusal_of_type : Option MessageType → ℕ → ℕ → ℕ
refusal_of_type None size given = 2
refusal_of_type (Some t) size given =
    cond (leb 34 size) (cond (leb size given) (cond (eqb (type_number t) 11) (cond (leb 64 size) 0 1) 5) 1) 3

unfoldable pub refusal_of : ℕ → ℕ → ℕ → ℕ
refusal_of number size given = refusal_of_type (type_of number) size given

-- fewer than 34 bytes: 1; then those; then the TLVs'
unfoldable pub frame_refusal : List ℕ → ℕ
frame_refusal s = cond (leb 34 (length s)) (on_zero (refusal_of (be_at s 0 1 % 16) (size_at s) (length s)) (check_list (tlvs_at s)) (λ n. n)) 1

-- the announce with its header, and where its TLVs begin and end
abbrev pub message_at : List ℕ → Message
message_at s = record { announce = announce.content_at (header.header_at s) s 34; tlv_start = 64; tlv_end = size_at s }

unfoldable pub read_frame : List ℕ → Result Message Refusal
read_frame s = on_zero (frame_refusal s) (Ok (message_at s)) refused
