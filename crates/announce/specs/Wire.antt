-- The content of an announce message of IEEE 1588-2019, 13.5, as paper 01 lists its 30 bytes: what is read, and what is written.
-- Assumes nothing.
use Rattle.std.specs.Prelude.{ℕ, ◌+◌, List, [], ◌∷◌, Bool, cond, leb, ℤ, length, Result, Ok}
use Rattle.std.specs.Int.{w16}
use Rattle.std.proofs.Common.{to_z, of_z}
use Rattle.wire.specs.Be.{be_at, put}
use Rattle.wire.specs.Layout.{bytes_of_all}
use Rattle.wire.specs.Write.{write_number, write_buffer}
use Rattle.header.specs.declared.Header.{Header}
use Rattle.announce.specs.declared.AnnounceMessage.{AnnounceMessage}
use Rattle.refused.specs.declared.Refusal.{Refusal}
use Rattle.refused.specs.Refusal.{refused}

-- ---- what is read

-- what the numbers of the fields mean; byte 12 has no place in it
unfoldable pub announce_with : Header → (seconds nanos : ℕ) → ℤ → (priority1 class accuracy variance priority2 grandmaster steps source : ℕ) → AnnounceMessage
announce_with header seconds nanos utc_offset priority1 class accuracy variance priority2 grandmaster steps source =
    record {
      header = header;
      origin_timestamp = record { seconds = seconds; nanos = nanos };
      current_utc_offset = utc_offset;
      grandmaster_priority_1 = priority1;
      grandmaster_clock_quality = record { clock_class = class; clock_accuracy = accuracy; offset_scaled_log_variance = variance };
      grandmaster_priority_2 = priority2;
      grandmaster_identity = grandmaster;
      steps_removed = steps;
      time_source = source;
    }

-- the same, with the signed field as its bits
unfoldable pub announce_of : Header → (seconds nanos utc_offset priority1 class accuracy variance priority2 grandmaster steps source : ℕ) → AnnounceMessage
announce_of header seconds nanos utc_offset priority1 class accuracy variance priority2 grandmaster steps source =
    announce_with header seconds nanos (to_z w16 utc_offset) priority1 class accuracy variance priority2 grandmaster steps source

-- the message with a header whose content stands from `at` on
abbrev pub content_at : Header → List ℕ → ℕ → AnnounceMessage
content_at h s at =
    announce_of h (be_at s at 6) (be_at s (at + 6) 4) (be_at s (at + 10) 2) (be_at s (at + 13) 1) (be_at s (at + 14) 1) (be_at s (at + 15) 1)
    (be_at s (at + 16) 2) (be_at s (at + 18) 1) (be_at s (at + 19) 8) (be_at s (at + 27) 2) (be_at s (at + 29) 1)

-- fewer than 30 bytes are refused 1
unfoldable pub read_content : Header → List ℕ → Result AnnounceMessage Refusal
read_content h s = cond (leb 30 (length s)) (Ok (content_at h s 0)) (refused 1)

-- ---- what is written

-- the widths of the fields, in order; the fourth is byte 12
unfoldable pub content_widths : List ℕ
content_widths = 6 ∷ 4 ∷ 2 ∷ 1 ∷ 1 ∷ 1 ∷ 1 ∷ 2 ∷ 1 ∷ 8 ∷ 2 ∷ 1 ∷ []

-- what the writer puts into byte 12: what lies there
unfoldable pub reserved_of : List ℕ → ℕ → ℕ
reserved_of s at = be_at s (at + 12) 1

-- the numbers of the fields
unfoldable pub content_values : ℕ → AnnounceMessage → List ℕ
content_values reserved a =
    a.origin_timestamp.seconds ∷ a.origin_timestamp.nanos ∷ of_z w16 a.current_utc_offset ∷ reserved
    ∷ a.grandmaster_priority_1 ∷ a.grandmaster_clock_quality.clock_class ∷ a.grandmaster_clock_quality.clock_accuracy
    ∷ a.grandmaster_clock_quality.offset_scaled_log_variance ∷ a.grandmaster_priority_2 ∷ a.grandmaster_identity
    ∷ a.steps_removed ∷ a.time_source ∷ []

-- the 30 bytes
abbrev pub content_bytes : ℕ → AnnounceMessage → List ℕ
content_bytes reserved a = bytes_of_all content_widths (content_values reserved a)

-- a buffer with the content from `at` on, and every other byte as it lay
unfoldable pub with_content : List ℕ → ℕ → AnnounceMessage → List ℕ
with_content s at a = put s at (content_bytes (reserved_of s at) a)

-- what the wire can hold: seconds of 48 bits
abbrev pub fits_wire : ℕ → Bool
fits_wire seconds = leb seconds 0xFFFFFFFFFFFF

-- the same of a message
abbrev pub fits_of : AnnounceMessage → Bool
fits_of a = fits_wire a.origin_timestamp.seconds

-- the answer of the writer, and the buffer afterwards
abbrev pub write_answer : List ℕ → AnnounceMessage → ℕ
write_answer s a = write_number (fits_of a) 30 s

abbrev pub write_exit : List ℕ → AnnounceMessage → List ℕ
write_exit s a = write_buffer (fits_of a) 30 s (with_content s 0 a)
