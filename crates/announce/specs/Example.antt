-- Paper 01's F(n), read by computation.
-- Assumes nothing.
use Rattle.std.specs.Prelude.{ℕ, ◌+◌, ◌*◌, ◌/◌, ◌%◌, ◌<◌, ◌≡◌, refl, false, List, [], ◌∷◌, pos, drop, Ok}
use Rattle.std.proofs.Common.{ap, arith}
use Rattle.wire.specs.Be.{be_at}
use Rattle.header.specs.declared.Header.{Header}
use Rattle.message_type.specs.declared.MessageType.TheVariants.{Announce}
use Rattle.message_type.specs.Types.{type_of}
use Rattle.header.specs.Wire.{header_of, header_with, read_header}
use Rattle.announce.specs.declared.AnnounceMessage.{AnnounceMessage}
use Rattle.announce.specs.Wire.{announce_of, announce_with, read_content}

-- the 64 bytes: an announce of clock 1, port 1, with the sequence n
unfoldable pub F : ℕ → List ℕ
F n =
    0x0B ∷ 0x02 ∷ 0x00 ∷ 0x40 ∷ 0 ∷ 0 ∷ 0 ∷ 0 ∷ 0 ∷ 0 ∷ 0 ∷ 0 ∷ 0 ∷ 0 ∷ 0 ∷ 0 ∷ 0 ∷ 0 ∷ 0 ∷ 0
    ∷ 0 ∷ 0 ∷ 0 ∷ 0 ∷ 0 ∷ 0 ∷ 0 ∷ 1 ∷ 0 ∷ 1 ∷ (n / 256 % 256) ∷ (n % 256) ∷ 5 ∷ 0
    ∷ 0 ∷ 0 ∷ 0 ∷ 0 ∷ 0 ∷ 0 ∷ 0 ∷ 0 ∷ 0 ∷ 0 ∷ 0 ∷ 0 ∷ 0 ∷ 0x80 ∷ 0x06 ∷ 0x20 ∷ 0x4E ∷ 0x5D ∷ 0x80
    ∷ 0 ∷ 0 ∷ 0 ∷ 0 ∷ 0 ∷ 0 ∷ 0 ∷ 1 ∷ 0 ∷ 0 ∷ 0x20 ∷ []

-- its header, and the message
abbrev pub header : ℕ → Header
header n =
    record {
      sdo_id = 0;
      version = record { major = 2; minor = 0 };
      domain_number = 0;
      alternate_master_flag = false;
      two_step_flag = false;
      unicast_flag = false;
      ptp_profile_specific_1 = false;
      ptp_profile_specific_2 = false;
      leap61 = false;
      leap59 = false;
      current_utc_offset_valid = false;
      ptp_timescale = false;
      time_tracable = false;
      frequency_tracable = false;
      synchronization_uncertain = false;
      correction_field = pos 0;
      source_port_identity = record { clock_identity = 1; port_number = 1 };
      sequence_id = n;
      log_message_interval = pos 0;
    }

abbrev pub message : ℕ → AnnounceMessage
message n =
    record {
      header = header n;
      origin_timestamp = record { seconds = 0; nanos = 0 };
      current_utc_offset = pos 0;
      grandmaster_priority_1 = 128;
      grandmaster_clock_quality = record { clock_class = 6; clock_accuracy = 0x20; offset_scaled_log_variance = 0x4E5D };
      grandmaster_priority_2 = 128;
      grandmaster_identity = 1;
      steps_removed = 0;
      time_source = 0x20;
    }

pub header_read : (n : ℕ) → n < 65536 → read_header (F n) ≡ Ok (record { header = header n; message_type = Announce; message_length = 64 })
unfolding F read_header header_of header_with be_at type_of
header_read n h =
    let e : (0 * 256 + n / 256 % 256) * 256 + n % 256 ≡ n = omega arith in
    ap (λ (k : ℕ). Ok (record { header = header k; message_type = Announce; message_length = 64 })) e

pub content-read : (n : ℕ) → read_content (header n) (drop 34 (F n)) ≡ Ok (message n)
unfolding F read_content announce_of announce_with be_at
content-read n = refl
