-- The words of an announce tell all of it.
-- Assumes nothing.
use Rattle.std.specs.Prelude.{◌+◌, ◌*◌, ◌/◌, ◌%◌, ◌^◌, ◌≤◌, ◌<◌, ◌≡◌, true}
use Rattle.std.proofs.Common.{ap, ◌∙◌, mod-eq_of_lt}
use native.Mathlib.Omega.{arith}
use borrow.Author.Tests.{le-leb}
use Rattle.std.proofs.Math.Arith.{digits_div, digits_mod}
use mir.Syntax.{w8, w16, w64}
use mir.Val.{of_z}
use mir.ValLaws.{of_z_fits}
use Rattle.wire.specs.Flags.{pack, pack-bound}
use Rattle.header.specs.declared.Header.{Header}
use Rattle.header.specs.Wire.{bits6, bits7}
use Rattle.header.proofs.RoundTrip as header
use Rattle.announce.specs.declared.AnnounceMessage.{AnnounceMessage}
use Rattle.announce.specs.Wire.{announce_of}
use Rattle.announce.proofs.RoundTrip as announce
use Rattle.slot.specs.Slot.{header-back, content-back}
use Rattle.lent.specs.Words.{all_within}
use Rattle.announce_words.specs.Words.{announce_words, fits_fields, announce_in}

-- of a message that the wire can hold, as every message that was read
module _ (a : AnnounceMessage) (w : header.Whole a.header) (v : announce.Whole a) where
  -- it comes back from its words,
  pub announce-back : announce_in (announce_words a) ≡ a
  unfolding announce_in announce_words
  announce-back =
      let h = a.header in
      let sdo-low : h.sdo_id % 256 < 256 = omega arith in
      let sdo-high : h.sdo_id / 256 < 16 = omega (arith, w.sdo) in
      let major : h.version.major < 16 = omega (arith, w.major) in
      let minor : h.version.minor < 16 = omega (arith, w.minor) in
      let flags6 : pack (bits6 h) < 256 = omega (arith, pack-bound (bits6 h)) in
      let flags7 : pack (bits7 h) < 256 = omega (arith, pack-bound (bits7 h)) in
      let domain : h.domain_number < 256 = w.typed.domain in
      let port : h.source_port_identity.port_number < 65536 = w.typed.port in
      let sequence : h.sequence_id < 65536 = w.typed.sequence in
      let interval : of_z w8 h.log_message_interval < 256 = (of_z_fits w8 h.log_message_interval w.typed.interval).fits in
      let seconds : a.origin_timestamp.seconds < 2 ^ 48 = omega (arith, v.seconds) in
      let nanos : a.origin_timestamp.nanos < 2 ^ 32 = v.typed.nanos in
      let utc : of_z w16 a.current_utc_offset < 65536 = (of_z_fits w16 a.current_utc_offset v.typed.offset).fits in
      let priority1 : a.grandmaster_priority_1 < 256 = v.typed.priority1 in
      let class : a.grandmaster_clock_quality.clock_class < 256 = v.typed.class in
      let accuracy : a.grandmaster_clock_quality.clock_accuracy < 256 = v.typed.accuracy in
      let variance : a.grandmaster_clock_quality.offset_scaled_log_variance < 65536 = v.typed.variance in
      let priority2 : a.grandmaster_priority_2 < 256 = v.typed.priority2 in
      let steps : a.steps_removed < 65536 = v.typed.steps in
      let source : a.time_source < 256 = v.typed.source in
      simp (digits_div, digits_mod, mod-eq_of_lt)
      (ap
      (λ (k : Header). announce_of k a.origin_timestamp.seconds a.origin_timestamp.nanos (of_z w16 a.current_utc_offset) a.grandmaster_priority_1
      a.grandmaster_clock_quality.clock_class a.grandmaster_clock_quality.clock_accuracy a.grandmaster_clock_quality.offset_scaled_log_variance
      a.grandmaster_priority_2 a.grandmaster_identity a.steps_removed a.time_source)
      (header-back h w)
      ∙ content-back a v)

  -- and its words fit their fields
  pub announce-fits : fits_fields (announce_words a) ≡ true
  unfolding all_within announce_words
  announce-fits =
      let h = a.header in
      let flags : pack (bits6 h) * 256 + pack (bits7 h) ≤ 0xFFFF = omega (arith, pack-bound (bits6 h), pack-bound (bits7 h)) in
      let correction = (of_z_fits w64 h.correction_field w.typed.correction).fits in
      let interval = (of_z_fits w8 h.log_message_interval w.typed.interval).fits in
      let utc = (of_z_fits w16 a.current_utc_offset v.typed.offset).fits in
      rw (
        le-leb h.sdo_id 0xFFF w.sdo,
        le-leb h.version.major 0xF w.major,
        le-leb h.version.minor 0xF w.minor,
        le-leb h.domain_number 0xFF (omega (arith, w.typed.domain)),
        le-leb (pack (bits6 h) * 256 + pack (bits7 h)) 0xFFFF flags,
        le-leb (of_z w64 h.correction_field) 0xFFFFFFFFFFFFFFFF (omega (arith, correction)),
        le-leb h.source_port_identity.clock_identity 0xFFFFFFFFFFFFFFFF (omega (arith, w.typed.clock)),
        le-leb h.source_port_identity.port_number 0xFFFF (omega (arith, w.typed.port)),
        le-leb h.sequence_id 0xFFFF (omega (arith, w.typed.sequence)),
        le-leb (of_z w8 h.log_message_interval) 0xFF (omega (arith, interval)),
        le-leb a.origin_timestamp.seconds 0xFFFFFFFFFFFF v.seconds,
        le-leb a.origin_timestamp.nanos 0xFFFFFFFF (omega (arith, v.typed.nanos)),
        le-leb (of_z w16 a.current_utc_offset) 0xFFFF (omega (arith, utc)),
        le-leb a.grandmaster_priority_1 0xFF (omega (arith, v.typed.priority1)),
        le-leb a.grandmaster_clock_quality.clock_class 0xFF (omega (arith, v.typed.class)),
        le-leb a.grandmaster_clock_quality.clock_accuracy 0xFF (omega (arith, v.typed.accuracy)),
        le-leb a.grandmaster_clock_quality.offset_scaled_log_variance 0xFFFF (omega (arith, v.typed.variance)),
        le-leb a.grandmaster_priority_2 0xFF (omega (arith, v.typed.priority2)),
        le-leb a.grandmaster_identity 0xFFFFFFFFFFFFFFFF (omega (arith, v.typed.grandmaster)),
        le-leb a.steps_removed 0xFFFF (omega (arith, v.typed.steps)),
        le-leb a.time_source 0xFF (omega (arith, v.typed.source)),
      )
