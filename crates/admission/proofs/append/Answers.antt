-- `admission::append` meets its contract. Assumes nothing.
use Prim.Native.Nat.{ℕ, ◌+◌, ◌-◌, ◌%◌}
use native.Mathlib.Omega.{arith}
use mathlib.Core.Path.{◌≡◌, ap, ◌∙◌}
use borrow.Author.Tests.{lt-ltb, le-ltb}
use borrow.Rule.Slice.PartMut.{put_mid}
use lib.ListN.{get_or}
use Rattle.wire.specs.Be.{put}
use Rattle.slot.specs.Blocks.{part-back}
use Rattle.slot.specs.Slot.{encode, length-encode}
use Rattle.book.specs.Layout.{slot_at}
use Rattle.admission.specs.Admit.{puts_out, appended}
use Rattle.admission.proofs.append.Goals as goal

pub returns-then-count-lt-MESSAGES : goal.returns-then-count-lt-MESSAGES
unfolding puts_out appended
returns-then-count-lt-MESSAGES c =
    let a = c.args in
    let r = c.slot_at-at.result in
    let e : put_mid r (r + 8 - r) a.master.now c.store_message.new.slot ≡ put a.master.now (slot_at (get_or a.master.now 2 0) (get_or a.master.now 3 0)) (encode a.m) =
    ap (put_mid r (r + 8 - r) a.master.now) c.store_message.ensures
    ∙ part-back a.master.now (encode a.m) r 8 (length-encode a.m)
    ∙ ap (λ (b : ℕ). put a.master.now b (encode a.m)) c.slot_at-at.ensures.0 in
    (simp (lt-ltb _ _ c.if-count-lt-MESSAGES.true), simp (e, lt-ltb _ _ c.if-count-lt-MESSAGES.true))

pub returns : goal.returns
unfolding puts_out appended
returns c =
    let a = c.args in
    let r = c.slot_at-at.result in
    let e : put_mid r (r + 8 - r) a.master.now c.store_message.new.slot ≡ put a.master.now (slot_at (get_or a.master.now 2 0) (get_or a.master.now 3 0)) (encode a.m) =
    ap (put_mid r (r + 8 - r) a.master.now) c.store_message.ensures
    ∙ part-back a.master.now (encode a.m) r 8 (length-encode a.m)
    ∙ ap (λ (b : ℕ). put a.master.now b (encode a.m)) c.slot_at-at.ensures.0 in
    let n : (get_or a.master.now 2 0 % 8 + 1) % 8 ≡ (get_or a.master.now 2 0 + 1) % 8 = omega arith in
    (simp (le-ltb _ _ c.if-count-lt-MESSAGES.false), simp (e, n, le-ltb _ _ c.if-count-lt-MESSAGES.false))
