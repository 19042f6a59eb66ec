-- `tlv_builder::TlvSetBuilder::add` meets its contract: what the entry writer did to the rest is done to the buffer.
-- Assumes nothing.
use Rattle.std.proofs.Common.{ℕ, ◌+◌, ◌-◌, ◌≤◌, ◌≡◌, min, List, length, refl, sym, ap, ◌∙◌, arith}
use Rattle.std.proofs.lemmas.Result.{err_from_is_err_and}
use borrow.Rule.Slice.PartMut.{put_mid, mid_of}
use Rattle.refused.proofs.Laws.{number-positive}
use Rattle.wire.specs.Be.{put}
use Rattle.wire.specs.Write.{WroteAll, done}
use Rattle.tlv_builder.specs.Builder.{entry_bytes, entry_fits, entry_answer, entry_exit, add_answer, add_exit}
use Rattle.tlv_builder.proofs.BuilderLaws.{same_answer, add_done, add-refused, read_done, read-refused}
use Rattle.tlv_builder.proofs.TlvSetBuilder.add.Goals as goal

-- at the return of the entry writer: its answer is n, and what it left in the rest is m
module _ (b v m : List ℕ) (used tag r n : ℕ) (said : r ≡ min used (length b))
    (wrote_rest : (n ≡ entry_answer (mid_of r (length b - r) b) v) × (m ≡ entry_exit (mid_of r (length b - r) b) tag v)) where
  within : r ≤ length b
  within = omega arith

  same : length b - r ≡ length b - used
  same = omega arith

  is : used ≤ length b → r ≡ used
  is h = omega arith

  number : n ≡ add_answer b used v
  number = wrote_rest.0 ∙ same_answer b v tag used r within same is

  -- an answer of 0 has room for the entry
  all : n ≡ 0 → WroteAll (entry_fits (length v)) (used + (length v + 4)) b (put b used (entry_bytes tag v))
  all e = done (entry_fits (length v)) (used + (length v + 4)) b (put b used (entry_bytes tag v)) (sym number ∙ e)

  here : n ≡ 0 → r ≡ used
  here e = is (omega (arith, (all e).room))

  wrote : n ≡ 0 → put_mid r (length b - r) b m ≡ add_exit b used tag v
  wrote e = ap (put_mid r (length b - r) b) wrote_rest.1 ∙ add_done b v tag used r within same is (sym number ∙ e)

  left : (n ≡ 0 → ⊥) → put_mid r (length b - r) b m ≡ add_exit b used tag v
  left k = ap (put_mid r (length b - r) b) wrote_rest.1 ∙ add-refused b v tag used r within same is (λ e. k (number ∙ e))

pub returns-in_err-write_entry : goal.returns-in_err-write_entry
returns-in_err-write_entry c =
    let b = c.args.buffer.now in
    let v = c.args.value.now in
    let used = c.args.self.used in
    let p = err_from_is_err_and c.from_residual.result c.from_residual.ensures.1 in
    let said = c.in_err-write_entry.ensures in
    let e = number b v _ used c.args.tlv_type _ _ c.min-used.ensures said in (
      rw (p.1, p.2) (read-refused b v used _ (sym e)),
      left b v _ used c.args.tlv_type _ _ c.min-used.ensures said (λ z. omega (arith, number-positive c.in_err-write_entry.field-0.0)),
    )

pub overflow_add-result-2 : goal.overflow_add-result-2
overflow_add-result-2 c =
    let b = c.args.buffer.now in
    let v = c.args.value.now in
    let said = c.in_ok-write_entry.ensures in
    let h = here b v _ c.args.self.used c.args.tlv_type _ _ c.min-used.ensures said refl in
    let a = all b v _ c.args.self.used c.args.tlv_type _ _ c.min-used.ensures said refl in
    omega (arith, h, a.room, c.well_formed.0)

pub returns : goal.returns
returns c =
    let b = c.args.buffer.now in
    let v = c.args.value.now in
    let used = c.args.self.used in
    let said = c.in_ok-write_entry.ensures in
    let e = number b v _ used c.args.tlv_type _ _ c.min-used.ensures said in
    let h = here b v _ used c.args.tlv_type _ _ c.min-used.ensures said refl in
    (rw h (read_done b v used (sym e)), wrote b v _ used c.args.tlv_type _ _ c.min-used.ensures said refl)
