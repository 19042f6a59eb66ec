-- Which frames are accepted: an announce whose length field says 64 bytes or more, no more than are given, and whose TLVs are even
-- entries of which the last is not empty.
-- Assumes nothing.
use Rattle.std.specs.Prelude.{ℕ, ◌%◌, ◌≤◌, ◌≡◌, List, length, Some}
use Rattle.wire.specs.Be.{be_at}
use Rattle.message_type.specs.declared.MessageType.TheVariants.{Announce}
use Rattle.message_type.specs.Types.{type_of}
use Rattle.tlv_entries.specs.Entries.{Taken}
use Rattle.frame.specs.Frame.{size_at, tlvs_at}

pub record Accepted (s : List ℕ) : Type 0 where
  pub type : type_of (be_at s 0 1 % 16) ≡ Some Announce
  pub long : 64 ≤ size_at s
  pub there : size_at s ≤ length s
  pub tlvs : Taken (tlvs_at s)
