-- `frame::frame_refusal` meets its contract: 34 bytes, then the checks on numbers, then the TLVs.
-- Assumes nothing.
use Rattle.std.proofs.Common.{ℕ, ◌≡◌, ◌≤◌, ◌-◌, ◌%◌, List, length, take, drop, sym, ap, ap₂, ◌∙◌, arith}
use Rattle.std.proofs.lemmas.Result.{err_from_is_err_and}
use Rattle.refused.proofs.Laws.{number-positive}
use Rattle.wire.specs.Be.{be_at}
use Rattle.tlv.specs.Tlv.{check_list}
use Rattle.frame.specs.Frame.{size_at, refusal_of}
use Rattle.frame.proofs.Laws.{front, frame_1, frame_front, frame_tlvs, passed-back}
use Rattle.frame.proofs.frame_refusal.Goals as goal

-- the number of the checks is that of the definition
number : (s : List ℕ) (n first size : ℕ) → n ≡ refusal_of (first % 16) size (length s) → first ≡ be_at s 0 1 → size ≡ be_at s 2 2 → n ≡ front s
number s n first size e f g = e ∙ ap₂ (λ (x y : ℕ). refusal_of (x % 16) y (length s)) f g

-- past the checks the TLVs are there
there : (s : List ℕ) (first size : ℕ) → 0 ≡ refusal_of (first % 16) size (length s) → first ≡ be_at s 0 1 → size ≡ be_at s 2 2 → (64 ≤ size) × (size ≤ length s)
there s first size e f g =
    let p = passed-back (be_at s 0 1 % 16) (size_at s) (length s) (sym (number s 0 first size e f g)) in
    (omega (arith, p.long), omega (arith, p.there))

pub returns-then-s-lt-HEADER_SIZE : goal.returns-then-s-lt-HEADER_SIZE
returns-then-s-lt-HEADER_SIZE c = frame_1 c.args.s.now c.if-s-lt-HEADER_SIZE.true

pub returns-in_err-refusal_of : goal.returns-in_err-refusal_of
returns-in_err-refusal_of c =
    let p = err_from_is_err_and c.from_residual.result c.from_residual.ensures.1 in
    let e = number c.args.s.now _ _ _ c.in_err-refusal_of.ensures c.u8_at.ensures c.u16_at-size.ensures in
    rw (p.1, p.2) (frame_front c.args.s.now _ c.if-s-lt-HEADER_SIZE.false (sym e) (λ z. omega (arith, number-positive c.in_err-refusal_of.field-0.0)))

pub slice_bounds-check-count : goal.slice_bounds-check-count
slice_bounds-check-count c = (there c.args.s.now _ _ c.in_ok-refusal_of.ensures c.u8_at.ensures c.u16_at-size.ensures).0

pub slice_bounds-check-start : goal.slice_bounds-check-start
slice_bounds-check-start c = (there c.args.s.now _ _ c.in_ok-refusal_of.ensures c.u8_at.ensures c.u16_at-size.ensures).0

pub slice_bounds-check-end : goal.slice_bounds-check-end
slice_bounds-check-end c = (there c.args.s.now _ _ c.in_ok-refusal_of.ensures c.u8_at.ensures c.u16_at-size.ensures).1

pub returns : goal.returns
returns c =
    let s = c.args.s.now in
    let e = number s 0 _ _ c.in_ok-refusal_of.ensures c.u8_at.ensures c.u16_at-size.ensures in
    c.check.ensures
    ∙ ap (λ (size : ℕ). check_list (take (size - 64) (drop 64 s))) c.u16_at-size.ensures
    ∙ frame_tlvs s c.if-s-lt-HEADER_SIZE.false (sym e)
