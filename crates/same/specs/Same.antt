-- When two messages are the same: when all their fields are, and so exactly when they are identical.
-- Assumes nothing.
use Rattle.std.specs.Prelude.{◌≡◌, Bool, true, List, [], ◌∷◌, ◌++◌}
use Rattle.header.specs.declared.PortIdentity.{PortIdentity}
use Rattle.header.specs.declared.PtpVersion.{PtpVersion}
use Rattle.header.specs.declared.Header.{Header}
use Rattle.announce.specs.declared.WireTimestamp.{WireTimestamp}
use Rattle.announce.specs.declared.ClockQuality.{ClockQuality}
use Rattle.announce.specs.declared.AnnounceMessage.{AnnounceMessage}
use Rattle.same.specs.Test.{Test, number, flag, signed, Field, by, by_fields}

-- ---- the structs, each by its fields: numbers, flags, signed numbers, and then those that are structs

abbrev pub port : Test PortIdentity
port =
    by_fields (by number (λ p. p.clock_identity) ∷ by number (λ p. p.port_number) ∷ [])
    (λ a b e₀ e₁ i. record { clock_identity = e₀ i; port_number = e₁ i })

abbrev pub version : Test PtpVersion
version = by_fields (by number (λ v. v.major) ∷ by number (λ v. v.minor) ∷ []) (λ a b e₀ e₁ i. record { major = e₀ i; minor = e₁ i })

-- the numbers without sign and the flags of a header
abbrev pub plain : List (Field Header)
plain =
    by number (λ h. h.sdo_id) ∷ by number (λ h. h.domain_number) ∷ by number (λ h. h.sequence_id)
    ∷ by flag (λ h. h.alternate_master_flag) ∷ by flag (λ h. h.two_step_flag) ∷ by flag (λ h. h.unicast_flag)
    ∷ by flag (λ h. h.ptp_profile_specific_1) ∷ by flag (λ h. h.ptp_profile_specific_2)
    ∷ by flag (λ h. h.leap61) ∷ by flag (λ h. h.leap59) ∷ by flag (λ h. h.current_utc_offset_valid)
    ∷ by flag (λ h. h.ptp_timescale) ∷ by flag (λ h. h.time_tracable) ∷ by flag (λ h. h.frequency_tracable)
    ∷ by flag (λ h. h.synchronization_uncertain) ∷ []

unfoldable pub header : Test Header
header =
    by_fields
    (plain
    ++ by signed (λ h. h.correction_field) ∷ by signed (λ h. h.log_message_interval) ∷ by version (λ h. h.version)
    ∷ by port (λ h. h.source_port_identity) ∷ [])
    (λ a b e₀ e₁ e₂ f₀ f₁ f₂ f₃ f₄ f₅ f₆ f₇ f₈ f₉ g₀ g₁ z₀ z₁ v p i.
    record {
      sdo_id = e₀ i;
      version = v i;
      domain_number = e₁ i;
      alternate_master_flag = f₀ i;
      two_step_flag = f₁ i;
      unicast_flag = f₂ i;
      ptp_profile_specific_1 = f₃ i;
      ptp_profile_specific_2 = f₄ i;
      leap61 = f₅ i;
      leap59 = f₆ i;
      current_utc_offset_valid = f₇ i;
      ptp_timescale = f₈ i;
      time_tracable = f₉ i;
      frequency_tracable = g₀ i;
      synchronization_uncertain = g₁ i;
      correction_field = z₀ i;
      source_port_identity = p i;
      sequence_id = e₂ i;
      log_message_interval = z₁ i;
    })

abbrev pub timestamp : Test WireTimestamp
timestamp =
    by_fields (by number (λ t. t.seconds) ∷ by number (λ t. t.nanos) ∷ []) (λ a b e₀ e₁ i. record { seconds = e₀ i; nanos = e₁ i })

abbrev pub quality : Test ClockQuality
quality =
    by_fields
    (by number (λ q. q.clock_class) ∷ by number (λ q. q.clock_accuracy) ∷ by number (λ q. q.offset_scaled_log_variance) ∷ [])
    (λ a b e₀ e₁ e₂ i. record { clock_class = e₀ i; clock_accuracy = e₁ i; offset_scaled_log_variance = e₂ i })

unfoldable pub message : Test AnnounceMessage
message =
    by_fields
    (by number (λ m. m.grandmaster_priority_1) ∷ by number (λ m. m.grandmaster_priority_2)
    ∷ by number (λ m. m.grandmaster_identity) ∷ by number (λ m. m.steps_removed) ∷ by number (λ m. m.time_source)
    ∷ by signed (λ m. m.current_utc_offset) ∷ by header (λ m. m.header) ∷ by timestamp (λ m. m.origin_timestamp)
    ∷ by quality (λ m. m.grandmaster_clock_quality) ∷ [])
    (λ a b e₀ e₁ e₂ e₃ e₄ z h t q i.
    record {
      header = h i;
      origin_timestamp = t i;
      current_utc_offset = z i;
      grandmaster_priority_1 = e₀ i;
      grandmaster_clock_quality = q i;
      grandmaster_priority_2 = e₁ i;
      grandmaster_identity = e₂ i;
      steps_removed = e₃ i;
      time_source = e₄ i;
    })

-- ---- what the code answers: a yes exactly of identical values

unfoldable pub same_port : PortIdentity → PortIdentity → Bool
same_port = port.same

pub same-port-eq : (a b : PortIdentity) → same_port a b ≡ true → a ≡ b
unfolding same_port
same-port-eq = port.eq

pub same-port-refl : (a : PortIdentity) → same_port a a ≡ true
unfolding same_port
same-port-refl = port.self

unfoldable pub same_message : AnnounceMessage → AnnounceMessage → Bool
same_message = message.same

pub same-message-eq : (a b : AnnounceMessage) → same_message a b ≡ true → a ≡ b
unfolding same_message
same-message-eq = message.eq

pub same-message-refl : (a : AnnounceMessage) → same_message a a ≡ true
unfolding same_message
same-message-refl = message.self
