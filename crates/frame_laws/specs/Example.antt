-- Paper 01's F(n), read as a frame by computation.
-- Assumes nothing.
use Rattle.std.specs.Prelude.{ℕ, ◌+◌, ◌*◌, ◌/◌, ◌%◌, ◌<◌, ◌≡◌, Ok}
use Rattle.std.proofs.Common.{ap, arith}
use Rattle.wire.specs.Be.{be_at}
use Rattle.message_type.specs.Types.{type_of}
use Rattle.header.specs.Wire.{header_of, header_with}
use Rattle.announce.specs.Wire.{announce_of, announce_with}
use Rattle.announce.specs.Example.{F, message}
use Rattle.tlv.specs.Tlv.{entry_at, list_check}
use Rattle.frame.specs.Frame.{refusal_of, frame_refusal, read_frame}

-- an announce with no TLVs
pub frame_read : (n : ℕ) → n < 65536 → read_frame (F n) ≡ Ok (record { announce = message n; tlv_start = 64; tlv_end = 64 })
unfolding F read_frame frame_refusal refusal_of type_of header_of header_with announce_of announce_with be_at entry_at list_check
frame_read n h =
    let e : (0 * 256 + n / 256 % 256) * 256 + n % 256 ≡ n = omega arith in
    ap (λ (k : ℕ). Ok (record { announce = message k; tlv_start = 64; tlv_end = 64 })) e
