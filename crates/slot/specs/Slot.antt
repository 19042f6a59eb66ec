-- The eight words of a held message, and the message of eight words.
-- Assumes nothing.
use Rattle.std.specs.Prelude.{ℕ, ◌+◌, ◌*◌, ◌/◌, ◌%◌, ◌^◌, ◌≤◌, ◌<◌, ◌≡◌, refl, List, [], ◌∷◌, length, get_or, set}
use Rattle.std.proofs.Common.{ap, mod-eq_of_lt, arith, get_or-set_same, get_or-set_other, of_z}
use Rattle.std.proofs.Math.Arith.{digits_div, digits_mod}
use Rattle.std.specs.Int.{w8, w16, w64}
use mir.ValLaws.{of_z_fits}
use Rattle.wire.specs.Flags.{pack, pack-bound}
use Rattle.header.specs.declared.PortIdentity.{PortIdentity}
use Rattle.header.specs.declared.Header.{Header}
use Rattle.header.specs.Wire.{header_with, header_of, header_values, bits6, bits7}
use Rattle.header.proofs.RoundTrip as header
use Rattle.announce.specs.declared.AnnounceMessage.{AnnounceMessage}
use Rattle.announce.specs.Wire.{announce_with, announce_of, content_values}
use Rattle.announce.proofs.RoundTrip as announce
use Rattle.slot.specs.declared.ForeignAnnounceMessage.{ForeignAnnounceMessage}

-- ---- what a slot can hold

-- the fields that are narrower on the wire than their type
pub record Narrow (m : ForeignAnnounceMessage) : Type 0 where
  pub sdo : m.message.header.sdo_id ≤ 0xFFF
  pub major : m.message.header.version.major ≤ 15
  pub minor : m.message.header.version.minor ≤ 15
  pub seconds : m.message.origin_timestamp.seconds ≤ 0xFFFFFFFFFFFF

-- a message whose header and content the wire can hold, as every message that was read
pub record Whole (m : ForeignAnnounceMessage) : Type 0 where
  pub header : header.Whole m.message.header
  pub content : announce.Whole m.message

-- it can be stored
pub narrow : (m : ForeignAnnounceMessage) → Whole m → Narrow m
narrow m w = record { sdo = w.header.sdo; major = w.header.major; minor = w.header.minor; seconds = w.content.seconds }

-- ---- the words

-- three numbers of 16 bits in one word, the first the highest
abbrev pub counts : (sequence steps utc : ℕ) → ℕ
counts sequence steps utc = (sequence * 65536 + steps) * 65536 + utc

-- a byte each, the variance two: the high 48 bits compare as the five fields of a data set do, one after the other
abbrev pub quality : (priority1 class accuracy variance priority2 source interval : ℕ) → ℕ
quality priority1 class accuracy variance priority2 source interval =
    (((((priority1 * 256 + class) * 256 + accuracy) * 65536 + variance) * 256 + priority2) * 256 + source) * 256 + interval

-- seconds of 48 bits, then bytes 0 and 5 of the header
abbrev pub origin : (seconds sdo_type sdo_low : ℕ) → ℕ
origin seconds sdo_type sdo_low = (seconds * 256 + sdo_type) * 256 + sdo_low

-- nanoseconds of 32 bits, then bytes 6, 7, 1 and 4 of the header
abbrev pub rest : (nanos flags6 flags7 versions domain : ℕ) → ℕ
rest nanos flags6 flags7 versions domain = (((nanos * 256 + flags6) * 256 + flags7) * 256 + versions) * 256 + domain

-- the eight words of a message with a header
abbrev pub words : Header → AnnounceMessage → (age receipt : ℕ) → List ℕ
words h a age receipt =
    a.grandmaster_identity
    ∷ of_z w64 h.correction_field
    ∷ age
    ∷ receipt
    ∷ counts h.sequence_id a.steps_removed (of_z w16 a.current_utc_offset)
    ∷ quality a.grandmaster_priority_1 a.grandmaster_clock_quality.clock_class a.grandmaster_clock_quality.clock_accuracy
    a.grandmaster_clock_quality.offset_scaled_log_variance a.grandmaster_priority_2 a.time_source (of_z w8 h.log_message_interval)
    ∷ origin a.origin_timestamp.seconds (h.sdo_id / 256 * 16 + 11) (h.sdo_id % 256)
    ∷ rest a.origin_timestamp.nanos (pack (bits6 h)) (pack (bits7 h)) (h.version.minor * 16 + h.version.major) h.domain_number
    ∷ []

-- the eight words of a held message
unfoldable pub encode : ForeignAnnounceMessage → List ℕ
encode m = words m.message.header m.message m.age m.receipt

-- the header that the words 1, 4, 5, 6 and 7 hold, of the sender that is given
abbrev pub header_in : PortIdentity → (correction counts quality origin rest : ℕ) → Header
header_in source w1 w4 w5 w6 w7 =
    header_of
    (w6 / 256 % 256)
    (w7 / 256 % 256)
    (w7 % 256)
    (w6 % 256)
    (w7 / 256 / 256 / 256 % 256)
    (w7 / 256 / 256 % 256)
    w1
    source
    (w4 / 65536 / 65536 % 65536)
    (w5 % 256)

-- the message with a header that the words 0, 4, 5, 6 and 7 hold
abbrev pub message_in : Header → (grandmaster counts quality origin rest : ℕ) → AnnounceMessage
message_in h w0 w4 w5 w6 w7 =
    announce_of h
    (w6 / 256 / 256 % 2 ^ 48)
    (w7 / 256 / 256 / 256 / 256 % 2 ^ 32)
    (w4 % 65536)
    (w5 / 256 / 256 / 256 / 65536 / 256 / 256 % 256)
    (w5 / 256 / 256 / 256 / 65536 / 256 % 256)
    (w5 / 256 / 256 / 256 / 65536 % 256)
    (w5 / 256 / 256 / 256 % 65536)
    (w5 / 256 / 256 % 256)
    w0
    (w4 / 65536 % 65536)
    (w5 / 256 % 256)

-- the held message of eight words
unfoldable pub decode : PortIdentity → List ℕ → ForeignAnnounceMessage
decode source w =
    record {
      message =
          message_in (header_in source (get_or w 1 0) (get_or w 4 0) (get_or w 5 0) (get_or w 6 0) (get_or w 7 0))
          (get_or w 0 0) (get_or w 4 0) (get_or w 5 0) (get_or w 6 0) (get_or w 7 0);
      age = get_or w 2 0;
      receipt = get_or w 3 0;
    }

-- a message takes eight words
pub length-encode : (m : ForeignAnnounceMessage) → length (encode m) ≡ 8
unfolding encode
length-encode m = refl

-- ---- the fields that stand in a word of their own, or are compared

-- the age is word 2
pub decode-age : (source : PortIdentity) (w : List ℕ) → (decode source w).age ≡ get_or w 2 0
unfolding decode
decode-age source w = refl

-- the sequence is the highest of word 4
pub decode-sequence : (source : PortIdentity) (w : List ℕ) → (decode source w).message.header.sequence_id ≡ get_or w 4 0 / 65536 / 65536 % 65536
unfolding decode announce_of announce_with header_of header_with
decode-sequence source w = refl

-- the steps are the second of word 4
pub decode-steps : (source : PortIdentity) (w : List ℕ) → (decode source w).message.steps_removed ≡ get_or w 4 0 / 65536 % 65536
unfolding decode announce_of announce_with
decode-steps source w = refl

-- the sender is the one that was given
pub decode-source : (source : PortIdentity) (w : List ℕ) → (decode source w).message.header.source_port_identity ≡ source
unfolding decode announce_of announce_with header_of header_with
decode-source source w = refl

-- ---- another age

-- the same message at another age
unfoldable pub aged : ForeignAnnounceMessage → ℕ → ForeignAnnounceMessage
aged m age = record { message = m.message; age = age; receipt = m.receipt }

-- another word 2 is another age, and all else stays
pub decode-aged : (source : PortIdentity) (w : List ℕ) (age : ℕ) → length w ≡ 8 → decode source (set w 2 age) ≡ aged (decode source w) age
unfolding decode aged
decode-aged source w age e =
    let same : get_or (set w 2 age) 2 0 ≡ age = get_or-set_same w 2 age 0 (omega arith) in
    let other : (j : ℕ) → (j ≡ 2 → ⊥) → get_or (set w 2 age) j 0 ≡ get_or w j 0 = λ j ne. get_or-set_other w 2 j age 0 ne in
    simp (same, other 0 (λ q. omega arith), other 1 (λ q. omega arith), other 3 (λ q. omega arith), other 4 (λ q. omega arith), other 5 (λ q. omega arith), other 6 (λ q. omega arith), other 7 (λ q. omega arith))

-- ---- what was stored is loaded

-- the numbers of a header that is written mean that header
pub header-back : (h : Header) → header.Whole h
    → header_of (h.sdo_id / 256 * 16 + 11) (h.version.minor * 16 + h.version.major) h.domain_number (h.sdo_id % 256) (pack (bits6 h)) (pack (bits7 h))
    (of_z w64 h.correction_field) h.source_port_identity h.sequence_id (of_z w8 h.log_message_interval)
    ≡ h
unfolding header.from_values header_values
header-back h w =
    let wired : header.Wired = record { header = h; type = 11; control = 0; size = 0 } in
    let valid : header.Valid wired = record { whole = w; type-fits = omega arith; control-fits = omega arith; size_fits = omega arith } in
    ap (λ (x : header.Wired). x.header) (header.meaning wired valid)

-- and so do those of a content
pub content-back : (a : AnnounceMessage) → announce.Whole a
    → announce_of a.header a.origin_timestamp.seconds a.origin_timestamp.nanos (of_z w16 a.current_utc_offset) a.grandmaster_priority_1
    a.grandmaster_clock_quality.clock_class a.grandmaster_clock_quality.clock_accuracy
    a.grandmaster_clock_quality.offset_scaled_log_variance a.grandmaster_priority_2 a.grandmaster_identity
    a.steps_removed a.time_source
    ≡ a
unfolding announce.from_values content_values
content-back a w = announce.back 0 a.header a w refl

-- a message comes back from its words
pub decode-encode : (m : ForeignAnnounceMessage) → Whole m → decode m.message.header.source_port_identity (encode m) ≡ m
unfolding encode decode
decode-encode m w =
    let h = m.message.header in
    let a = m.message in
    let sdo-low : h.sdo_id % 256 < 256 = omega arith in
    let sdo-type : h.sdo_id / 256 * 16 + 11 < 256 = omega (arith, w.header.sdo) in
    let versions : h.version.minor * 16 + h.version.major < 256 = omega (arith, w.header.major, w.header.minor) in
    let flags6 : pack (bits6 h) < 256 = omega (arith, pack-bound (bits6 h)) in
    let flags7 : pack (bits7 h) < 256 = omega (arith, pack-bound (bits7 h)) in
    let domain : h.domain_number < 256 = w.header.typed.domain in
    let sequence : h.sequence_id < 65536 = w.header.typed.sequence in
    let interval : of_z w8 h.log_message_interval < 256 = (of_z_fits w8 h.log_message_interval w.header.typed.interval).fits in
    let seconds : a.origin_timestamp.seconds < 2 ^ 48 = omega (arith, w.content.seconds) in
    let nanos : a.origin_timestamp.nanos < 2 ^ 32 = w.content.typed.nanos in
    let utc : of_z w16 a.current_utc_offset < 65536 = (of_z_fits w16 a.current_utc_offset w.content.typed.offset).fits in
    let priority1 : a.grandmaster_priority_1 < 256 = w.content.typed.priority1 in
    let class : a.grandmaster_clock_quality.clock_class < 256 = w.content.typed.class in
    let accuracy : a.grandmaster_clock_quality.clock_accuracy < 256 = w.content.typed.accuracy in
    let variance : a.grandmaster_clock_quality.offset_scaled_log_variance < 65536 = w.content.typed.variance in
    let priority2 : a.grandmaster_priority_2 < 256 = w.content.typed.priority2 in
    let steps : a.steps_removed < 65536 = w.content.typed.steps in
    let source : a.time_source < 256 = w.content.typed.source in
    simp (digits_div, digits_mod, mod-eq_of_lt, header-back h w.header, content-back a w.content)
