-- A frame as it is written.
-- Assumes nothing.
use Rattle.std.specs.Prelude.{ℕ, ◌+◌, List, Bool, false, cond, length}
use Rattle.wire.specs.Be.{put}
use Rattle.wire.specs.Write.{write_number, write_buffer}
use Rattle.header.specs.Wire as header
use Rattle.announce.specs.declared.AnnounceMessage.{AnnounceMessage}
use Rattle.announce.specs.Wire as announce
use Rattle.announce.proofs.Message.{with_message}
use Rattle.tlv.specs.Tlv.{whole_entries}

-- what the wire can hold: header and content fit, the whole is at most 65,535 bytes, the TLVs are whole even entries
unfoldable pub fits_of : AnnounceMessage → List ℕ → Bool
fits_of a tlvs = cond (header.fits_of a.header (length tlvs + 30)) (cond (announce.fits_of a) (whole_entries tlvs) false) false

-- a buffer with the message at its start, and every other byte as it lay
unfoldable pub with_frame : List ℕ → AnnounceMessage → List ℕ → List ℕ
with_frame s a tlvs = put (with_message s a (length tlvs + 64)) 64 tlvs

-- the answer of the writer, and the buffer afterwards
abbrev pub write_answer : List ℕ → AnnounceMessage → List ℕ → ℕ
write_answer s a tlvs = write_number (fits_of a tlvs) (length tlvs + 64) s

abbrev pub write_exit : List ℕ → AnnounceMessage → List ℕ → List ℕ
write_exit s a tlvs = write_buffer (fits_of a tlvs) (length tlvs + 64) s (with_frame s a tlvs)
