-- `offers::newest` meets its contract. Assumes nothing.
use Prim.Native.Nat.{ℕ}
use mathlib.Core.Path.{ap, ◌∙◌}
use Rattle.slot.specs.Blocks.{block, part-block}
use Rattle.slot.specs.Slot.{decode}
use Rattle.history.specs.Port.{best_of}
use Rattle.book.specs.Layout.{identity_of, message_at, reads}
use Rattle.offers.proofs.newest.Goals as goal

pub returns : goal.returns
unfolding message_at
returns c =
    let m = c.args.master.now in
    let r = c.args.receiver in
    ap (best_of reads r)
    (c.load_message-held.ensures
    ∙ ap (decode (identity_of m)) (part-block m c.slot_at-at.result 8)
    ∙ ap (λ (at : ℕ). decode (identity_of m) (block m at 8)) c.slot_at-at.ensures.0)
