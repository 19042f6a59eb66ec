-- Which frames are accepted: an announce whose length field says 64 bytes or more, no more than are given, and whose TLVs are even
-- entries of which the last is not empty.
-- Assumes nothing.
use Rattle.std.specs.Prelude.{ℕ, zero, suc, ◌+◌, ◌-◌, ◌≤◌, ◌≡◌, refl, List, length, take, drop, Ok}
use Rattle.std.proofs.Common.{sym, ap, ◌∙◌, arith}
use Rattle.wire.specs.Be.{Bytes, put}
use Rattle.wire.proofs.BeLaws.{bytes-part, length-put, part-put-before}
use Rattle.wire.specs.Refusal.{on_zero}
use Rattle.message_type.specs.Types.{type_of}
use Rattle.header.specs.Wire.{header_at}
use Rattle.header.proofs.RoundTrip.{Wired, header-kept}
use Rattle.announce.specs.Wire.{content_at}
use Rattle.announce.proofs.RoundTrip.{content-kept}
use Rattle.tlv.specs.Tlv.{check_list}
use Rattle.tlv_entries.proofs.Entries.{taken, taken_back}
use Rattle.frame.specs.declared.Message.{Message}
use Rattle.refused.specs.Refusal.{refused}
use Rattle.frame.specs.Frame.{size_at, tlvs_at, frame_refusal, message_at, read_frame}
use Rattle.frame.proofs.Laws.{frame_passed, frame_passes, read_done}
use Rattle.frame_laws.specs.Accepted.{Accepted}

-- such a frame is read
pub accepts : (s : List ℕ) → Accepted s → read_frame s ≡ Ok (message_at s)
accepts s a =
    sym (read_done s (frame_passes s (record { front = record { type = a.type; long = a.long; there = a.there }; tlvs = taken (tlvs_at s) a.tlvs })))

-- an answer that is no refusal had no refusal
done_none : (n : ℕ) (x m : Message) → on_zero n (Ok x) refused ≡ Ok m → (n ≡ 0) × (m ≡ x)
done_none zero x m e = (refl, let same : m ≡ x = cc in same)
done_none (suc n) x m e = absurd (let z : ◌≡◌ {A = ℕ} 0 1 = cc in omega arith)

-- and a frame that is read is such a frame, with these values
pub accepted : (s : List ℕ) (m : Message) → Bytes s → read_frame s ≡ Ok m → Accepted s × (m ≡ message_at s)
unfolding read_frame
accepted s m b e =
    let d = done_none (frame_refusal s) (message_at s) m e in
    let p = frame_passed s d.0 in (
      record {
        type = p.front.type;
        long = p.front.long;
        there = p.front.there;
        tlvs = taken_back (tlvs_at s) (bytes-part (size_at s - 64) 64 s b) p.tlvs;
      },
      d.1,
    )

-- its TLVs are within the frame
pub tlvs-within : (s : List ℕ) (m : Message) → read_frame s ≡ Ok m → (m.tlv_start ≤ m.tlv_end) × (m.tlv_end ≤ length s)
unfolding read_frame
tlvs-within s m e =
    let d = done_none (frame_refusal s) (message_at s) m e in
    let p = (frame_passed s d.0).front in
    rw d.1 (p.long, p.there)

-- ---- what follows the message

-- bytes that are put after an accepted message leave the answer as it was
pub later-ignored : (s : List ℕ) (m : Message) (k : ℕ) (bs : List ℕ) → read_frame s ≡ Ok m → size_at s ≤ k → k + length bs ≤ length s
    → read_frame (put s k bs) ≡ Ok m
unfolding read_frame
later-ignored s m k bs e h le =
    let d = done_none (frame_refusal s) (message_at s) m e in
    let p = frame_passed s d.0 in
    let f = p.front in
    let w = header-kept s k bs (omega (arith, f.long)) (omega arith) in
    let size : size_at (put s k bs) ≡ size_at s = ap (λ (x : Wired). x.size) w in
    let tlvs : tlvs_at (put s k bs) ≡ tlvs_at s =
    ap (λ (n : ℕ). take (n - 64) (drop 64 (put s k bs))) size ∙ part-put-before s 64 (size_at s - 64) k bs (omega (arith, f.long)) (omega arith) in
    let content : content_at (header_at (put s k bs)) (put s k bs) 34 ≡ content_at (header_at s) s 34 =
    ap (λ (x : Wired). content_at x.header (put s k bs) 34) w ∙ content-kept (header_at s) s 34 k bs (omega (arith, f.long)) (omega arith) in
    sym (read_done (put s k bs) (frame_passes (put s k bs) (record {
      front = record {
        type = ap (λ (x : Wired). type_of x.type) w ∙ f.type;
        long = omega (arith, size, f.long);
        there = omega (arith, size, f.there, length-put s k bs le);
      };
      tlvs = ap check_list tlvs ∙ p.tlvs;
    })))
    ∙ (λ i. Ok (record { announce = content i; tlv_start = 64; tlv_end = size i }))
    ∙ ap Ok (sym d.1)
