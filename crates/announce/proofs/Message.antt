-- Header and content in one buffer, 64 bytes: what a frame is made of, read back, and its bytes written again.
-- Assumes nothing.
use Rattle.std.specs.Prelude.{ℕ, ◌≤◌, ◌<◌, ◌≡◌, refl, List, [], ◌∷◌, ◌++◌, length, drop}
use Rattle.std.proofs.Common.{ap, ◌∙◌, arith}
use Rattle.std.specs.Int.{w16}
use mir.ValLaws.{of_z-to_z}
use Rattle.wire.specs.Be.{Bytes, be_at, bytes_of, put}
use Rattle.wire.proofs.BeLaws.{be_at-bound, be_at-same, get_or-put_after}
use Rattle.wire.specs.Layout.{fields_at, bytes_of_all}
use Rattle.wire.proofs.LayoutLaws.{length-bytes_of_all, bytes-fields, bytes-fields-then}
use Rattle.header.specs.declared.Header.{Header}
use Rattle.message_type.specs.declared.MessageType.TheVariants.{Announce}
use Rattle.header.specs.Wire.{header_widths, header_bytes, with_header}
use Rattle.header.proofs.Again.{part}
use Rattle.header.proofs.RoundTrip as header
use Rattle.announce.specs.declared.AnnounceMessage.{AnnounceMessage}
use Rattle.announce.specs.Wire.{announce_of, announce_with, content_at, content_widths, reserved_of, content_values, content_bytes, with_content}
use Rattle.announce.proofs.RoundTrip.{Whole, content-trip, length-with_content}

-- a buffer with an announce of `size` bytes in all at its start: header, then content
unfoldable pub with_message : List ℕ → AnnounceMessage → ℕ → List ℕ
with_message s a size = with_content (with_header s a.header Announce size) 34 a

module _ (s : List ℕ) (b : Bytes s) (le : 64 ≤ length s) (a : AnnounceMessage) (size : ℕ) where
  headed : List ℕ
  headed = with_header s a.header Announce size

  headed-length : length headed ≡ length s
  unfolding headed
  headed-length = header.length-with_header s a.header Announce size (omega arith)

  headed-bytes : Bytes headed
  unfolding headed
  headed-bytes = header.bytes-with_header s a.header Announce size b

  pub written : length (with_message s a size) ≡ length s
  unfolding with_message headed
  written = length-with_content headed 34 a (omega (arith, headed-length)) ∙ headed-length

  pub wired-back : header.Whole a.header → size < 65536 → header.wired_at (with_message s a size) ≡ header.wired_of a.header Announce size
  unfolding with_message headed with_content
  wired-back w hs =
      header.header-kept headed 34 (content_bytes (reserved_of headed 34) a) (omega arith) (omega (arith, headed-length))
      ∙ header.wired-trip s a.header Announce size w hs

  pub content-back : Whole a → content_at a.header (with_message s a size) 34 ≡ a
  unfolding with_message headed
  content-back w = content-trip headed 34 a w headed-bytes (omega (arith, headed-length))

-- ---- written again

-- the 30 bytes of a content that stands from 34 on, with a given byte 12
pub content-again : (s : List ℕ) (h : Header) (reserved : ℕ) → Bytes s → 64 ≤ length s
    → content_bytes reserved (content_at h s 34) ≡ part s 34 12 ++ (bytes_of 1 reserved ++ part s 47 17)
unfolding content_widths content_values announce_of announce_with fields_at bytes_of_all
content-again s h reserved b le =
    let again : ℕ → List ℕ = λ z.
    (be_at s 34 6 ∷ be_at s 40 4 ∷ z ∷ reserved ∷ be_at s 47 1 ∷ be_at s 48 1 ∷ be_at s 49 1 ∷ be_at s 50 2 ∷ be_at s 52 1 ∷ be_at s 53 8 ∷ be_at s 61 2 ∷ be_at s 63 1 ∷ []) in
    ap (λ (z : ℕ). bytes_of_all content_widths (again z)) (of_z-to_z w16 (be_at s 44 2) (record { fits = be_at-bound s 44 2 b }))
    ∙ bytes-fields-then (6 ∷ 4 ∷ 2 ∷ []) s 34 (drop 3 content_widths) (drop 3 (again (be_at s 44 2))) _ b (omega arith) refl
    (ap (λ (r : List ℕ). bytes_of 1 reserved ++ r) (bytes-fields (1 ∷ 1 ∷ 1 ∷ 2 ∷ 1 ∷ 8 ∷ 2 ∷ 1 ∷ []) s 47 b le))

-- what the target holds in byte 46, which the header does not reach
pub reserved_there : (target : List ℕ) (h : Header) (size : ℕ) → 34 ≤ length target → reserved_of (with_header target h Announce size) 34 ≡ be_at target 46 1
unfolding reserved_of with_header header_widths
reserved_there target h size le =
    be_at-same (put target 0 (header_bytes h Announce size)) target 46 1
    (λ i lo hi. get_or-put_after target 0 (header_bytes h Announce size) i (rw length-bytes_of_all (omega arith)) (rw length-bytes_of_all (omega arith)))
