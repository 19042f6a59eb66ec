-- What is written is read back, and what is read is written again.
-- Assumes nothing.
use Rattle.std.specs.Prelude.{ℕ, ◌+◌, ◌-◌, ◌%◌, ◌≤◌, ◌≡◌, refl, true, drop, Ok}
use Rattle.std.proofs.Math.Path.{sym, ap, ap₂}
use Rattle.std.proofs.Common.{◌∙◌, subst, arith, leb-true, length-append}
use mathlib.Core.List.{List, ◌++◌, append_assoc}
use Rattle.std.proofs.Math.ListN.{length, take}
use Rattle.wire.specs.Be.{Bytes, be_at, put}
use Rattle.wire.proofs.BeLaws.{be_at-same, length-put, put-put, put-over, part-put, get_or-put_before}
use Rattle.wire.proofs.LayoutLaws.{length-bytes_of_all}
use Rattle.wire.specs.Write.{done, wrote_0}
use Rattle.message_type.specs.declared.MessageType.TheVariants.{Announce}
use Rattle.message_type.specs.Types.{type_of, type-back}
use Rattle.header.specs.Wire.{header_at, header_widths, header_bytes, with_header}
use Rattle.header.proofs.Laws.{fitting}
use Rattle.header.proofs.RoundTrip as header
use Rattle.announce.specs.declared.AnnounceMessage.{AnnounceMessage}
use Rattle.announce.specs.Wire.{content_at, content_widths, content_bytes, reserved_of, with_content}
use Rattle.announce.proofs.Message.{with_message, written, wired-back, content-back, reserved_there}
use Rattle.announce.proofs.RoundTrip as announce
use Rattle.tlv_entries.specs.Entries.{Taken}
use Rattle.frame.specs.Frame.{size_at, tlvs_at, message_at, read_frame}
use Rattle.frame_writer.specs.Frame.{fits_of, with_frame, write_answer, write_exit}
use Rattle.frame_writer.specs.Laws.{fits-back, fits-size}
use Rattle.frame_laws.specs.Accepted.{Accepted}
use Rattle.frame_laws.proofs.Accepted.{accepts}

-- ---- the bytes of a message

-- header, content and TLVs, with what byte 46 holds
unfoldable pub frame_bytes : ℕ → AnnounceMessage → List ℕ → List ℕ
frame_bytes reserved a tlvs = header_bytes a.header Announce (length tlvs + 64) ++ (content_bytes reserved a ++ tlvs)

pub length-frame_bytes : (reserved : ℕ) (a : AnnounceMessage) (tlvs : List ℕ) → length (frame_bytes reserved a tlvs) ≡ length tlvs + 64
unfolding frame_bytes header_widths content_widths
length-frame_bytes reserved a tlvs = simp (length-append, length-bytes_of_all) (omega arith)

-- what the writer puts into byte 46 of a target: what lies there
abbrev pub reserved_in : List ℕ → AnnounceMessage → ℕ → ℕ
reserved_in s a size = reserved_of (with_header s a.header Announce size) 34

-- the writer touches only the bytes of the message, and they are these
pub frame_laid : (s : List ℕ) (a : AnnounceMessage) (tlvs : List ℕ) → length tlvs + 64 ≤ length s
    → with_frame s a tlvs ≡ put s 0 (frame_bytes (reserved_in s a (length tlvs + 64)) a tlvs)
unfolding with_frame with_message with_content with_header frame_bytes header_widths content_widths
frame_laid s a tlvs le =
    let size = length tlvs + 64 in
    let h = header_bytes a.header Announce size in
    let c = content_bytes (reserved_in s a size) a in
    ap (λ (l : List ℕ). put l 64 tlvs) (put-put s 0 34 h c (rw length-bytes_of_all refl) (rw length-bytes_of_all (omega arith)))
    ∙ put-put s 0 64 (h ++ c) tlvs (simp (length-append, length-bytes_of_all)) (omega arith)
    ∙ ap (put s 0) (append_assoc h c tlvs)

-- ---- reading what was written

module _ (s : List ℕ) (b : Bytes s) (a : AnnounceMessage) (tlvs : List ℕ) (room : length tlvs + 64 ≤ length s) (size : length tlvs + 64 ≤ 65535)
    (wh : header.Whole a.header) (wa : announce.Whole a) where
  abbrev message : List ℕ
  message = with_message s a (length tlvs + 64)

  message-length : length message ≡ length s
  message-length = written s b (omega arith) a (length tlvs + 64)

  abbrev out : List ℕ
  out = with_frame s a tlvs

  out-length : length out ≡ length s
  unfolding with_frame
  out-length = length-put message 64 tlvs (omega (arith, message-length)) ∙ message-length

  -- the header's numbers
  wired : header.wired_at out ≡ header.wired_of a.header Announce (length tlvs + 64)
  unfolding with_frame
  wired = header.header-kept message 64 tlvs (omega arith) (omega (arith, message-length)) ∙ wired-back s b (omega arith) a (length tlvs + 64) wh (omega arith)

  out-size : size_at out ≡ length tlvs + 64
  out-size = ap (λ (w : header.Wired). w.size) wired

  out-type : type_of (be_at out 0 1 % 16) ≡ type_of 11
  out-type = ap (λ (w : header.Wired). type_of w.type) wired

  content : content_at (header_at out) out 34 ≡ a
  unfolding with_frame
  content =
      ap (λ (w : header.Wired). content_at w.header out 34) wired
      ∙ announce.content-kept a.header message 34 64 tlvs (omega arith) (omega (arith, message-length))
      ∙ content-back s b (omega arith) a (length tlvs + 64) wa

  pub out-tlvs : tlvs_at out ≡ tlvs
  unfolding with_frame
  out-tlvs =
      let n : size_at out - 64 ≡ length tlvs = omega (arith, out-size) in
      ap (λ (k : ℕ). take k (drop 64 out)) n ∙ part-put message 64 tlvs (omega (arith, message-length))

  pub out-message : message_at out ≡ record { announce = a; tlv_start = 64; tlv_end = length tlvs + 64 }
  out-message = λ i. record { announce = content i; tlv_start = 64; tlv_end = out-size i }

  -- with entries of which the last is not empty it is accepted
  pub out-accepted : Taken tlvs → Accepted out
  out-accepted t =
      record {
        type = out-type ∙ type-back Announce;
        long = omega (arith, out-size);
        there = omega (arith, out-size, out-length);
        tlvs = subst Taken (sym out-tlvs) t;
      }

-- a message that the wire can hold
whole-header : (a : AnnounceMessage) (tlvs : List ℕ) → header.Typed a.header → fits_of a tlvs ≡ true → header.Whole a.header
whole-header a tlvs ty e =
    let f = fitting _ _ _ _ (fits-back a tlvs e).head in
    record { sdo = f.sdo-fits; major = f.major-fits; minor = f.minor-fits; typed = ty }

whole-content : (a : AnnounceMessage) (tlvs : List ℕ) → announce.Typed a → fits_of a tlvs ≡ true → announce.Whole a
whole-content a tlvs ty e = record { seconds = leb-true _ _ (fits-back a tlvs e).content; typed = ty }

-- of the calls: where the writer answers 0, the reader gives back what was written, given that the last TLV is not empty
pub frame_trip : (s : List ℕ) (a : AnnounceMessage) (tlvs : List ℕ) → Bytes s → header.Typed a.header → announce.Typed a → Taken tlvs
    → write_answer s a tlvs ≡ 0
    → (read_frame (write_exit s a tlvs) ≡ Ok (record { announce = a; tlv_start = 64; tlv_end = length tlvs + 64 }))
    × (tlvs_at (write_exit s a tlvs) ≡ tlvs)
frame_trip s a tlvs b th ta t e =
    let d = done (fits_of a tlvs) (length tlvs + 64) s (with_frame s a tlvs) e in
    let size = fits-size a tlvs d.fit in
    let wh = whole-header a tlvs th d.fit in
    let wa = whole-content a tlvs ta d.fit in
    let out = with_frame s a tlvs in
    rw d.exit (
      accepts out (out-accepted s b a tlvs d.room size wh wa t) ∙ ap Ok (out-message s b a tlvs d.room size wh wa),
      out-tlvs s b a tlvs d.room size wh wa,
    )

-- ---- written twice

module _ (s : List ℕ) (b : Bytes s) (a : AnnounceMessage) (tlvs : List ℕ) (room : length tlvs + 64 ≤ length s) (wa : announce.Whole a) where
  abbrev total : ℕ
  total = length tlvs + 64

  abbrev headed : List ℕ
  headed = with_header s a.header Announce total

  headed-length : length headed ≡ length s
  headed-length = header.length-with_header s a.header Announce total (omega arith)

  -- byte 46 is as it lay
  reserved_same : reserved_in (with_frame s a tlvs) a total ≡ reserved_in s a total
  unfolding with_frame with_message reserved_of
  reserved_same =
      let inner = with_content headed 34 a in
      let long : length inner ≡ length s = announce.length-with_content headed 34 a (omega (arith, headed-length)) ∙ headed-length in
      let out = put inner 64 tlvs in
      let len : length out ≡ length s = length-put inner 64 tlvs (omega (arith, long)) ∙ long in
      reserved_there out a.header total (omega (arith, len))
      ∙ be_at-same out inner 46 1 (λ i lo hi. get_or-put_before inner 64 tlvs i (omega arith) (omega (arith, long)))
      ∙ announce.reserved_kept headed 34 a wa (header.bytes-with_header s a.header Announce total b) (omega (arith, headed-length))

  same-twice : with_frame (with_frame s a tlvs) a tlvs ≡ with_frame s a tlvs
  same-twice =
      let x = frame_bytes (reserved_in s a total) a tlvs in
      let l : length x ≡ total = length-frame_bytes (reserved_in s a total) a tlvs in
      let len : length (with_frame s a tlvs) ≡ length s = ap length (frame_laid s a tlvs room) ∙ length-put s 0 x (omega (arith, l)) in
      frame_laid (with_frame s a tlvs) a tlvs (omega (arith, len))
      ∙ ap₂ (λ (t : List ℕ) (r : ℕ). put t 0 (frame_bytes r a tlvs)) (frame_laid s a tlvs room) reserved_same
      ∙ put-over s 0 x x refl (omega (arith, l))
      ∙ sym (frame_laid s a tlvs room)

-- of the calls: a second writing into that target is taken and changes nothing
pub frame_twice : (s : List ℕ) (a : AnnounceMessage) (tlvs : List ℕ) → Bytes s → announce.Typed a → write_answer s a tlvs ≡ 0
    → (write_answer (write_exit s a tlvs) a tlvs ≡ 0) × (write_exit (write_exit s a tlvs) a tlvs ≡ write_exit s a tlvs)
frame_twice s a tlvs b ta e =
    let d = done (fits_of a tlvs) (length tlvs + 64) s (with_frame s a tlvs) e in
    let out = with_frame s a tlvs in
    let wa = whole-content a tlvs ta d.fit in
    let x = frame_bytes (reserved_in s a (length tlvs + 64)) a tlvs in
    let len : length out ≡ length s = ap length (frame_laid s a tlvs d.room) ∙ length-put s 0 x (omega (arith, length-frame_bytes (reserved_in s a (length tlvs + 64)) a tlvs, d.room)) in
    let w = wrote_0 (fits_of a tlvs) (length tlvs + 64) out (with_frame out a tlvs) d.fit (omega (arith, len, d.room)) in
    rw d.exit (sym w.0, sym w.1 ∙ same-twice s b a tlvs d.room wa)
