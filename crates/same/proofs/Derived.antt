-- Two tests that each say yes exactly of a value and itself agree, and the tests that Rust derives: by the fields in their order.
-- Assumes nothing.
use Rattle.std.specs.Prelude.{◌≡◌, refl, Bool, true, false, ◌&&◌, List, [], ◌∷◌, ℤ}
use Rattle.std.proofs.Common.{sym}
use Rattle.std.proofs.lemmas.Bool.{false≢true}
use Rattle.std.proofs.lemmas.Bool.Decides.{Decides-int_eq}
use Rattle.std.specs.Ordering.{int_eq}
use Rattle.header.specs.declared.Header.{Header}
use Rattle.announce.specs.declared.ClockQuality.{ClockQuality}
use Rattle.announce.specs.declared.AnnounceMessage.{AnnounceMessage}
use Rattle.same.specs.Test.{Test, number, flag, Field, by, Determine, both}
use Rattle.same.specs.Same.{port, version, timestamp}

pub agree : {A : Type 0} (t u : Test A) (a b : A) → t.same a b ≡ u.same a b
agree t u a b = ways (t.same a b) (u.same a b) (λ e. rw (← t.eq a b e) (u.self a)) (λ e. rw (← u.eq a b e) (t.self a))
  where
    ways : (p q : Bool) → (p ≡ true → q ≡ true) → (q ≡ true → p ≡ true) → p ≡ q
    ways true q f g = sym (f refl)
    ways false true f g = absurd (false≢true (g refl))
    ways false false f g = refl

-- the fields one after the other, as a derive compares them
abbrev pub in_order : {A : Type 0} → Field A → List (Field A) → A → A → Bool
in_order f [] a b = f.test.same (f.read a) (f.read b)
in_order f (g ∷ gs) a b = f.test.same (f.read a) (f.read b) && in_order g gs a b

pub in_order-eq : {A : Type 0} (f : Field A) (fs : List (Field A)) (a b : A) → in_order f fs a b ≡ true → Determine (f ∷ fs) a b → a ≡ b
in_order-eq f [] a b e whole = whole (f.test.eq (f.read a) (f.read b) e)
in_order-eq f (g ∷ gs) a b e whole =
    let (h, later) = both (f.test.same (f.read a) (f.read b)) (in_order g gs a b) e in
    in_order-eq g gs a b later (whole (f.test.eq (f.read a) (f.read b) h))

pub in_order-self : {A : Type 0} (f : Field A) (fs : List (Field A)) (a : A) → in_order f fs a a ≡ true
in_order-self f [] a = f.test.self (f.read a)
in_order-self f (g ∷ gs) a = rw (f.test.self (f.read a)) (in_order-self g gs a)

abbrev pub derived : {A : Type 0} (f : Field A) (fs : List (Field A)) → ((a b : A) → Determine (f ∷ fs) a b) → Test A
derived f fs whole =
    record { same = in_order f fs; eq = λ a b e. in_order-eq f fs a b e (whole a b); self = in_order-self f fs }

-- of a signed number
abbrev pub signed_derived : Test ℤ
signed_derived = record { same = int_eq; eq = λ y z. (Decides-int_eq y z).0; self = λ z. (Decides-int_eq z z).1 refl }

-- of a header
abbrev pub header_derived : Test Header
header_derived =
    derived (by number (λ h. h.sdo_id))
    (by version (λ h. h.version) ∷ by number (λ h. h.domain_number)
    ∷ by flag (λ h. h.alternate_master_flag) ∷ by flag (λ h. h.two_step_flag) ∷ by flag (λ h. h.unicast_flag)
    ∷ by flag (λ h. h.ptp_profile_specific_1) ∷ by flag (λ h. h.ptp_profile_specific_2)
    ∷ by flag (λ h. h.leap61) ∷ by flag (λ h. h.leap59) ∷ by flag (λ h. h.current_utc_offset_valid)
    ∷ by flag (λ h. h.ptp_timescale) ∷ by flag (λ h. h.time_tracable) ∷ by flag (λ h. h.frequency_tracable)
    ∷ by flag (λ h. h.synchronization_uncertain) ∷ by signed_derived (λ h. h.correction_field) ∷ by port (λ h. h.source_port_identity)
    ∷ by number (λ h. h.sequence_id) ∷ by signed_derived (λ h. h.log_message_interval) ∷ [])
    (λ a b s v d f₀ f₁ f₂ f₃ f₄ f₅ f₆ f₇ f₈ f₉ g₀ g₁ c p q l i.
    record {
      sdo_id = s i;
      version = v i;
      domain_number = d i;
      alternate_master_flag = f₀ i;
      two_step_flag = f₁ i;
      unicast_flag = f₂ i;
      ptp_profile_specific_1 = f₃ i;
      ptp_profile_specific_2 = f₄ i;
      leap61 = f₅ i;
      leap59 = f₆ i;
      current_utc_offset_valid = f₇ i;
      ptp_timescale = f₈ i;
      time_tracable = f₉ i;
      frequency_tracable = g₀ i;
      synchronization_uncertain = g₁ i;
      correction_field = c i;
      source_port_identity = p i;
      sequence_id = q i;
      log_message_interval = l i;
    })

-- of a clock's quality
abbrev pub quality_derived : Test ClockQuality
quality_derived =
    derived (by number (λ q. q.clock_class)) (by number (λ q. q.clock_accuracy) ∷ by number (λ q. q.offset_scaled_log_variance) ∷ [])
    (λ a b e₀ e₁ e₂ i. record { clock_class = e₀ i; clock_accuracy = e₁ i; offset_scaled_log_variance = e₂ i })

-- and of a message
abbrev pub message_derived : Test AnnounceMessage
message_derived =
    derived (by header_derived (λ m. m.header))
    (by timestamp (λ m. m.origin_timestamp) ∷ by signed_derived (λ m. m.current_utc_offset)
    ∷ by number (λ m. m.grandmaster_priority_1) ∷ by quality_derived (λ m. m.grandmaster_clock_quality) ∷ by number (λ m. m.grandmaster_priority_2)
    ∷ by number (λ m. m.grandmaster_identity) ∷ by number (λ m. m.steps_removed) ∷ by number (λ m. m.time_source) ∷ [])
    (λ a b h t z e₀ q e₁ e₂ e₃ e₄ i.
    record {
      header = h i;
      origin_timestamp = t i;
      current_utc_offset = z i;
      grandmaster_priority_1 = e₀ i;
      grandmaster_clock_quality = q i;
      grandmaster_priority_2 = e₁ i;
      grandmaster_identity = e₂ i;
      steps_removed = e₃ i;
      time_source = e₄ i;
    })
