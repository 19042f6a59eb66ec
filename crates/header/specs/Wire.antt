-- The header of IEEE 1588-2019, 13.3, as paper 01 lists its 34 bytes: what is read, and what is written.
-- Assumes nothing.
use Rattle.std.specs.Prelude.{ℕ, ◌+◌, ◌*◌, ◌/◌, ◌%◌, List, [], ◌∷◌, Bool, false, ◌&&◌, cond, leb, length, ℤ, Option, Some, None, Result, Ok}
use Rattle.std.specs.Int.{w8, w64}
use Rattle.std.proofs.Common.{to_z, of_z}
use Rattle.wire.specs.Be.{be_at, put}
use Rattle.wire.specs.Flags.{bit, pack}
use Rattle.wire.specs.Layout.{bytes_of_all}
use Rattle.wire.specs.Write.{write_number, write_buffer}
use Rattle.message_type.specs.Types.{type_of, type_number, control_of}
use Rattle.header.specs.declared.PortIdentity.{PortIdentity}
use Rattle.header.specs.declared.Header.{Header}
use Rattle.header.specs.declared.DeserializedHeader.{DeserializedHeader}
use Rattle.message_type.specs.declared.MessageType.{MessageType}
use Rattle.refused.specs.declared.Refusal.{Refusal}
use Rattle.refused.specs.Refusal.{refused}

-- ---- what is read

-- a port identity from `at` on: a clock identity, then a port number
abbrev pub port_identity_at : List ℕ → ℕ → PortIdentity
port_identity_at s at = record { clock_identity = be_at s at 8; port_number = be_at s (at + 8) 2 }

-- what the numbers of the fields mean; the bits and bytes that are ignored have no place in it
unfoldable pub header_with : (sdo_type versions domain sdo_low flags6 flags7 : ℕ) → ℤ → PortIdentity → ℕ → ℤ → Header
header_with sdo_type versions domain sdo_low flags6 flags7 correction source sequence interval =
    record {
      sdo_id = sdo_type / 16 * 256 + sdo_low;
      version = record { major = versions % 16; minor = versions / 16 };
      domain_number = domain;
      alternate_master_flag = bit flags6 0;
      two_step_flag = bit flags6 1;
      unicast_flag = bit flags6 2;
      ptp_profile_specific_1 = bit flags6 5;
      ptp_profile_specific_2 = bit flags6 6;
      leap61 = bit flags7 0;
      leap59 = bit flags7 1;
      current_utc_offset_valid = bit flags7 2;
      ptp_timescale = bit flags7 3;
      time_tracable = bit flags7 4;
      frequency_tracable = bit flags7 5;
      synchronization_uncertain = bit flags7 6;
      correction_field = correction;
      source_port_identity = source;
      sequence_id = sequence;
      log_message_interval = interval;
    }

-- the same, with the signed fields as their bits
unfoldable pub header_of : (sdo_type versions domain sdo_low flags6 flags7 correction : ℕ) → PortIdentity → (sequence interval : ℕ) → Header
header_of sdo_type versions domain sdo_low flags6 flags7 correction source sequence interval =
    header_with sdo_type versions domain sdo_low flags6 flags7 (to_z w64 correction) source sequence (to_z w8 interval)

-- the fields of the 34 bytes
abbrev pub header_at : List ℕ → Header
header_at s =
    header_of (be_at s 0 1) (be_at s 1 1) (be_at s 4 1) (be_at s 5 1) (be_at s 6 1) (be_at s 7 1) (be_at s 8 8)
    (port_identity_at s 20) (be_at s 30 2) (be_at s 33 1)

-- by the type that the low nibble of byte 0 says: a reserved one is refused 2
abbrev pub read_type : Option MessageType → Header → ℕ → Result DeserializedHeader Refusal
read_type (Some t) h size = Ok (record { header = h; message_type = t; message_length = size })
read_type None h size = refused 2

-- fewer than 34 bytes are refused 1 before that
unfoldable pub read_header : List ℕ → Result DeserializedHeader Refusal
read_header s = cond (leb 34 (length s)) (read_type (type_of (be_at s 0 1 % 16)) (header_at s) (be_at s 2 2)) (refused 1)

-- ---- what is written

-- the widths of the fields, in order
unfoldable pub header_widths : List ℕ
header_widths = 1 ∷ 1 ∷ 2 ∷ 1 ∷ 1 ∷ 1 ∷ 1 ∷ 8 ∷ 4 ∷ 8 ∷ 2 ∷ 2 ∷ 1 ∷ 1 ∷ []

-- bytes 6 and 7, from bit 0 up; the bits that have no name are zero
abbrev pub bits6 : Header → List Bool
bits6 h =
    h.alternate_master_flag ∷ h.two_step_flag ∷ h.unicast_flag ∷ false ∷ false
    ∷ h.ptp_profile_specific_1 ∷ h.ptp_profile_specific_2 ∷ []

abbrev pub bits7 : Header → List Bool
bits7 h =
    h.leap61 ∷ h.leap59 ∷ h.current_utc_offset_valid ∷ h.ptp_timescale
    ∷ h.time_tracable ∷ h.frequency_tracable ∷ h.synchronization_uncertain ∷ []

-- the numbers of the fields: of a header, a type's number and its control field, and the length of the whole message
unfoldable pub header_values : Header → (type control size : ℕ) → List ℕ
header_values h type control size =
    (h.sdo_id / 256 * 16 + type) ∷ (h.version.minor * 16 + h.version.major) ∷ size ∷ h.domain_number ∷ (h.sdo_id % 256)
    ∷ pack (bits6 h) ∷ pack (bits7 h) ∷ of_z w64 h.correction_field ∷ 0
    ∷ h.source_port_identity.clock_identity ∷ h.source_port_identity.port_number
    ∷ h.sequence_id ∷ control ∷ of_z w8 h.log_message_interval ∷ []

-- the 34 bytes
abbrev pub header_bytes : Header → MessageType → ℕ → List ℕ
header_bytes h t size = bytes_of_all header_widths (header_values h (type_number t) (control_of t) size)

-- a buffer with the header at its start, and every other byte as it lay
unfoldable pub with_header : List ℕ → Header → MessageType → ℕ → List ℕ
with_header s h t size = put s 0 (header_bytes h t size)

-- what the wire can hold: an sdo of 12 bits, version nibbles, a message of at most 65,535 bytes
unfoldable pub fits_wire : (sdo major minor content : ℕ) → Bool
fits_wire sdo major minor content = leb sdo 0xFFF && (leb major 15 && (leb minor 15 && leb content 65501))

-- the same of a header
abbrev pub fits_of : Header → ℕ → Bool
fits_of h content = fits_wire h.sdo_id h.version.major h.version.minor content

-- the answer of the writer, and the buffer afterwards
abbrev pub write_answer : List ℕ → Header → ℕ → ℕ
write_answer s h content = write_number (fits_of h content) 34 s

abbrev pub write_exit : List ℕ → Header → MessageType → ℕ → List ℕ
write_exit s h t content = write_buffer (fits_of h content) 34 s (with_header s h t (content + 34))
