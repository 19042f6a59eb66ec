-- The content as a codec, at any place: reading what was written gives the same values.
-- Assumes nothing.
use Rattle.std.specs.Prelude.{ℕ, ◌+◌, ◌^◌, ◌≤◌, ◌<◌, ◌≡◌, refl, List, [], ◌∷◌, ℤ, length, get_or, drop, Ok}
use Rattle.std.proofs.Common.{zero-le, sym, ap, ap₂, ◌∙◌, add_assoc, add-zero, arith, leb-true, SFits}
use Rattle.std.specs.Int.{w16}
use mir.ValLaws.{of_z_fits, to_z-of_z, to_z-Fits}
use Rattle.wire.specs.Be.{Bytes, be_at, bytes_of, put}
use Rattle.wire.proofs.BeLaws.{be_at-bound, be_at-drop, length-bytes_of, length-put, put-over}
use Rattle.wire.proofs.Codec.{Codec, read_as, write_as, trip}
use Rattle.wire.specs.Layout.{fields_at, Fit}
use Rattle.wire.proofs.LayoutLaws.{length-bytes_of_all, fields-put, fields-before, fields-after}
use Rattle.wire.specs.Write.{done}
use Rattle.header.specs.declared.Header.{Header}
use Rattle.announce.specs.declared.AnnounceMessage.{AnnounceMessage}
use Rattle.announce.specs.Wire.{announce_with, announce_of, content_at, read_content, content_widths, reserved_of, content_values, content_bytes, with_content, fits_of, write_answer, write_exit}
use Rattle.announce.proofs.Laws.{read_0}

-- every field of the content is a value of its type
pub record Typed (a : AnnounceMessage) : Type 0 where
  pub nanos : a.origin_timestamp.nanos < 2 ^ 32
  pub offset : SFits w16 a.current_utc_offset
  pub priority1 : a.grandmaster_priority_1 < 256
  pub class : a.grandmaster_clock_quality.clock_class < 256
  pub accuracy : a.grandmaster_clock_quality.clock_accuracy < 256
  pub variance : a.grandmaster_clock_quality.offset_scaled_log_variance < 65536
  pub priority2 : a.grandmaster_priority_2 < 256
  pub grandmaster : a.grandmaster_identity < 2 ^ 64
  pub steps : a.steps_removed < 65536
  pub source : a.time_source < 256

-- and the wire can hold it
pub record Whole (a : AnnounceMessage) : Type 0 where
  pub seconds : a.origin_timestamp.seconds ≤ 0xFFFFFFFFFFFF
  pub typed : Typed a

-- ---- the codec, over the header that the message has and what byte 12 holds

-- what the numbers of the fields mean
unfoldable pub from_values : Header → List ℕ → AnnounceMessage
from_values h v =
    announce_of h (get_or v 0 0) (get_or v 1 0) (get_or v 2 0) (get_or v 4 0) (get_or v 5 0) (get_or v 6 0) (get_or v 7 0) (get_or v 8 0)
    (get_or v 9 0) (get_or v 10 0) (get_or v 11 0)

fit : (reserved : ℕ) → reserved < 256 → (a : AnnounceMessage) → Whole a → Fit content_widths (content_values reserved a)
unfolding Fit content_widths content_values
fit reserved r a w = omega (arith, of_z_fits w16 a.current_utc_offset w.typed.offset)

-- the numbers mean what they were made of
pub back : (reserved : ℕ) (h : Header) (a : AnnounceMessage) → Whole a → a.header ≡ h → from_values h (content_values reserved a) ≡ a
unfolding from_values content_values announce_of announce_with
back reserved h a w e =
    ap₂
    (λ (g : Header) (z : ℤ).
    announce_with g a.origin_timestamp.seconds a.origin_timestamp.nanos z a.grandmaster_priority_1
    a.grandmaster_clock_quality.clock_class a.grandmaster_clock_quality.clock_accuracy
    a.grandmaster_clock_quality.offset_scaled_log_variance a.grandmaster_priority_2 a.grandmaster_identity
    a.steps_removed a.time_source)
    (sym e) (to_z-of_z w16 a.current_utc_offset w.typed.offset)

pub content_codec : (h : Header) (reserved : ℕ) → reserved < 256 → Codec AnnounceMessage
content_codec h reserved r =
    record {
      widths = content_widths;
      values = content_values reserved;
      meaning = from_values h;
      Valid = λ a. Whole a × (a.header ≡ h);
      fit = λ a v. fit reserved r a v.0;
      back = λ a v. back reserved h a v.0 v.1;
    }

-- the reader goes by it; at a place that is no numeral the offsets are regrouped
by_layout : (h : Header) (reserved : ℕ) (r : reserved < 256) (s : List ℕ) (at : ℕ) → content_at h s at ≡ read_as (content_codec h reserved r) s at
unfolding content_codec from_values fields_at content_widths
by_layout h reserved r s at = simp add_assoc

-- ---- reading what was written

reserved_fits : (s : List ℕ) (at : ℕ) → Bytes s → reserved_of s at < 256
unfolding reserved_of
reserved_fits s at b = be_at-bound s (at + 12) 1 b

pub content-trip : (s : List ℕ) (at : ℕ) (a : AnnounceMessage) → Whole a → Bytes s → at ≤ length s → content_at a.header (with_content s at a) at ≡ a
unfolding with_content content_codec
content-trip s at a w b le =
    let r = reserved_fits s at b in
    let k = content_codec a.header (reserved_of s at) r in
    by_layout a.header (reserved_of s at) r (write_as k s at a) at ∙ trip k s at a (w, refl) le

pub length-with_content : (s : List ℕ) (at : ℕ) (a : AnnounceMessage) → at + 30 ≤ length s → length (with_content s at a) ≡ length s
unfolding with_content content_widths
length-with_content s at a le = length-put s at (content_bytes (reserved_of s at) a) (rw length-bytes_of_all le)

-- of the calls: where the writer answers 0, the reader gives back what was written
pub calls-trip : (s : List ℕ) (a : AnnounceMessage) → Typed a → Bytes s → write_answer s a ≡ 0 → read_content a.header (write_exit s a) ≡ Ok a
calls-trip s a ty b e =
    let d = done (fits_of a) 30 s (with_content s 0 a) e in
    let out = with_content s 0 a in
    let room : 30 ≤ length out = omega (arith, length-with_content s 0 a d.room, d.room) in
    rw d.exit (sym (read_0 a.header out room) ∙ ap Ok (content-trip s 0 a (record { seconds = leb-true _ _ d.fit; typed = ty }) b zero-le))

-- ---- what is read

-- is whole, so it can be written
pub whole-read : (h : Header) (s : List ℕ) (at : ℕ) → Bytes s → Whole (content_at h s at)
unfolding announce_of announce_with
whole-read h s at b =
    record {
      seconds = omega (arith, be_at-bound s at 6 b);
      typed = record {
        nanos = be_at-bound s (at + 6) 4 b;
        offset = to_z-Fits w16 (be_at s (at + 10) 2) (record { fits = be_at-bound s (at + 10) 2 b });
        priority1 = be_at-bound s (at + 13) 1 b;
        class = be_at-bound s (at + 14) 1 b;
        accuracy = be_at-bound s (at + 15) 1 b;
        variance = be_at-bound s (at + 16) 2 b;
        priority2 = be_at-bound s (at + 18) 1 b;
        grandmaster = be_at-bound s (at + 19) 8 b;
        steps = be_at-bound s (at + 27) 2 b;
        source = be_at-bound s (at + 29) 1 b;
      };
    }

-- in the part of a message from `at` on is what stands in the message there
pub content-part : (h : Header) (s : List ℕ) (at : ℕ) → content_at h (drop at s) 0 ≡ content_at h s at
content-part h s at = simp (be_at-drop, add-zero)

-- ---- what is ignored

-- the numbers before byte 12 and those after it tell the message
around : Header → List ℕ → List ℕ → AnnounceMessage
around h f g =
    announce_of h (get_or f 0 0) (get_or f 1 0) (get_or f 2 0) (get_or g 0 0) (get_or g 1 0) (get_or g 2 0) (get_or g 3 0) (get_or g 4 0) (get_or g 5 0) (get_or g 6 0) (get_or g 7 0)

by-around : (h : Header) (s : List ℕ) (at : ℕ)
    → content_at h s at ≡ around h (fields_at (6 ∷ 4 ∷ 2 ∷ []) s at) (fields_at (1 ∷ 1 ∷ 1 ∷ 2 ∷ 1 ∷ 8 ∷ 2 ∷ 1 ∷ []) s (at + 13))
unfolding around fields_at
by-around h s at = simp add_assoc

-- so the content reads the same whatever byte 12 holds
pub ignored : (h : Header) (s : List ℕ) (at x : ℕ) → at + 30 ≤ length s → content_at h (put s (at + 12) (bytes_of 1 x)) at ≡ content_at h s at
ignored h s at x le =
    by-around h (put s (at + 12) (bytes_of 1 x)) at
    ∙ ap₂ (around h)
    (fields-before (6 ∷ 4 ∷ 2 ∷ []) s at (at + 12) (bytes_of 1 x) (omega arith) (omega arith))
    (fields-after (1 ∷ 1 ∷ 1 ∷ 2 ∷ 1 ∷ 8 ∷ 2 ∷ 1 ∷ []) s (at + 13) (at + 12) (bytes_of 1 x) (rw length-bytes_of (omega arith)) (rw length-bytes_of (omega arith)))
    ∙ sym (by-around h s at)

-- nor do bytes that are put after it touch it
pub content-kept : (h : Header) (s : List ℕ) (at k : ℕ) (bs : List ℕ) → at + 30 ≤ k → k ≤ length s → content_at h (put s k bs) at ≡ content_at h s at
content-kept h s at k bs le lk =
    by-around h (put s k bs) at
    ∙ ap₂ (around h) (fields-before (6 ∷ 4 ∷ 2 ∷ []) s at k bs (omega arith) lk) (fields-before (1 ∷ 1 ∷ 1 ∷ 2 ∷ 1 ∷ 8 ∷ 2 ∷ 1 ∷ []) s (at + 13) k bs (omega arith) lk)
    ∙ sym (by-around h s at)

-- ---- writing over

-- byte 12 is as it lay
pub reserved_kept : (s : List ℕ) (at : ℕ) (a : AnnounceMessage) → Whole a → Bytes s → at ≤ length s → reserved_of (with_content s at a) at ≡ reserved_of s at
unfolding with_content reserved_of fields_at content_widths content_values
reserved_kept s at a w b le =
    let r = be_at s (at + 12) 1 in
    ap (λ (k : ℕ). be_at (with_content s at a) k 1) (simp add_assoc)
    ∙ ap (λ v. get_or v 3 0) (fields-put s at content_widths (content_values r a) le (fit r (be_at-bound s (at + 12) 1 b) a w))

-- the same written twice changes nothing the second time
pub content-twice : (s : List ℕ) (at : ℕ) (a : AnnounceMessage) → Whole a → Bytes s → at + 30 ≤ length s
    → with_content (with_content s at a) at a ≡ with_content s at a
unfolding with_content content_widths
content-twice s at a w b le =
    let bs = content_bytes (reserved_of s at) a in
    ap (λ (r : ℕ). put (put s at bs) at (content_bytes r a)) (reserved_kept s at a w b (omega arith))
    ∙ put-over s at bs bs refl (rw length-bytes_of_all le)
