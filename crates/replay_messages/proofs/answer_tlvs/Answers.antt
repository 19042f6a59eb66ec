-- `replay_messages::answer_tlvs` meets its contract and ends: each entry is within the list, and the next one is further on. Assumes nothing.
use mathlib.Core.Path.{ap}
use Rattle.std.proofs.Common.{sym, ◌∙◌, arith}
use Rattle.std.specs.Prelude.{Ok}
use Rattle.tlv.proofs.Laws.{entry_read}
use Rattle.replay_messages.proofs.answer_tlvs.Goals as goal

pub overflow_add-end : goal.overflow_add-end
overflow_add-end c =
    let r = entry_read _ _ _ _ _ _ _ (sym c.next.ensures ∙ c.in-Ok-Entry.is ∙ ap Ok c.in-Ok-Entry.field-0-is) in
    omega (arith, r.start, r.within)

pub slice_bounds-add_entry-end : goal.slice_bounds-add_entry-end
slice_bounds-add_entry-end c =
    let r = entry_read _ _ _ _ _ _ _ (sym c.next.ensures ∙ c.in-Ok-Entry.is ∙ ap Ok c.in-Ok-Entry.field-0-is) in
    omega (arith, r.start, r.within)

pub loop-tlv_type-smaller : goal.loop-tlv_type-smaller
loop-tlv_type-smaller c =
    let r = entry_read _ _ _ _ _ _ _ (sym c.next.ensures ∙ c.in-Ok-Entry.is ∙ ap Ok c.in-Ok-Entry.field-0-is) in
    omega (arith, r.after, r.within)
