-- The words of an announce with its header, one a field, and the announce of such words.
-- Assumes nothing.
use Rattle.std.specs.Prelude.{ℕ, ◌+◌, ◌*◌, ◌/◌, ◌%◌, ◌^◌, Bool, cond, List, [], ◌∷◌, get_or}
use Rattle.std.specs.Int.{w8, w16, w64}
use Rattle.std.proofs.Common.{of_z}
use Rattle.wire.specs.Flags.{pack}
use Rattle.header.specs.Wire.{header_of, bits6, bits7}
use Rattle.announce.specs.declared.AnnounceMessage.{AnnounceMessage}
use Rattle.announce.specs.Wire.{announce_of}
use Rattle.lent.specs.Words.{all_within, lent}

-- how many words an announce takes
abbrev pub announce_size : ℕ
announce_size = 21

-- the words, each the unsigned number that the field has on the wire; the flags are byte 6, then byte 7
unfoldable pub announce_words : AnnounceMessage → List ℕ
announce_words a =
    a.header.sdo_id
    ∷ a.header.version.major
    ∷ a.header.version.minor
    ∷ a.header.domain_number
    ∷ (pack (bits6 a.header) * 256 + pack (bits7 a.header))
    ∷ of_z w64 a.header.correction_field
    ∷ a.header.source_port_identity.clock_identity
    ∷ a.header.source_port_identity.port_number
    ∷ a.header.sequence_id
    ∷ of_z w8 a.header.log_message_interval
    ∷ a.origin_timestamp.seconds
    ∷ a.origin_timestamp.nanos
    ∷ of_z w16 a.current_utc_offset
    ∷ a.grandmaster_priority_1
    ∷ a.grandmaster_clock_quality.clock_class
    ∷ a.grandmaster_clock_quality.clock_accuracy
    ∷ a.grandmaster_clock_quality.offset_scaled_log_variance
    ∷ a.grandmaster_priority_2
    ∷ a.grandmaster_identity
    ∷ a.steps_removed
    ∷ a.time_source
    ∷ []

-- the most that each field holds
abbrev pub field_limits : List ℕ
field_limits =
    0xFFF
    ∷ 0xF
    ∷ 0xF
    ∷ 0xFF
    ∷ 0xFFFF
    ∷ 0xFFFFFFFFFFFFFFFF
    ∷ 0xFFFFFFFFFFFFFFFF
    ∷ 0xFFFF
    ∷ 0xFFFF
    ∷ 0xFF
    ∷ 0xFFFFFFFFFFFF
    ∷ 0xFFFFFFFF
    ∷ 0xFFFF
    ∷ 0xFF
    ∷ 0xFF
    ∷ 0xFF
    ∷ 0xFFFF
    ∷ 0xFF
    ∷ 0xFFFFFFFFFFFFFFFF
    ∷ 0xFFFF
    ∷ 0xFF
    ∷ []

abbrev pub fits_fields : List ℕ → Bool
fits_fields ws = all_within ws field_limits

-- paper 01's number of words that are to be an announce: 1, then 15
abbrev pub announce_refusal : List ℕ → ℕ
announce_refusal ws = lent announce_size ws 1 (cond (fits_fields ws) 0 15)

-- the announce that the first words hold, each taken to the width of its field
unfoldable pub announce_in : List ℕ → AnnounceMessage
announce_in ws =
    announce_of
    (header_of
    (get_or ws 0 0 / 256 % 16 * 16 + 11)
    (get_or ws 2 0 % 16 * 16 + get_or ws 1 0 % 16)
    (get_or ws 3 0 % 256)
    (get_or ws 0 0 % 256)
    (get_or ws 4 0 / 256 % 256)
    (get_or ws 4 0 % 256)
    (get_or ws 5 0)
    (record { clock_identity = get_or ws 6 0; port_number = get_or ws 7 0 % 65536 })
    (get_or ws 8 0 % 65536)
    (get_or ws 9 0 % 256))
    (get_or ws 10 0 % 2 ^ 48)
    (get_or ws 11 0 % 2 ^ 32)
    (get_or ws 12 0 % 65536)
    (get_or ws 13 0 % 256)
    (get_or ws 14 0 % 256)
    (get_or ws 15 0 % 256)
    (get_or ws 16 0 % 65536)
    (get_or ws 17 0 % 256)
    (get_or ws 18 0)
    (get_or ws 19 0 % 65536)
    (get_or ws 20 0 % 256)
