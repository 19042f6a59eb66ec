-- `refusal::room_refusal` meets its contract. Assumes nothing.
use borrow.Author.Tests.{lt-ltb, le-ltb}
use Rattle.refusal.specs.Refusal.{room_refusal}
use Rattle.refusal.proofs.room_refusal.Goals.{then-place-count-via-then-place-count, then-place-count-via-else-place-count+then-count-lt-MASTERS}
use Rattle.refusal.proofs.room_refusal.Goals as goal

pub returns-then-place-count : goal.returns-then-place-count
unfolding room_refusal
returns-then-place-count c =
    elim c.then-place-count.branch [
      | then-place-count-via-then-place-count w ↦ simp (lt-ltb _ _ w.if-place-count.true)
      | then-place-count-via-else-place-count+then-count-lt-MASTERS w ↦ simp (le-ltb _ _ w.if-place-count.false, lt-ltb _ _ w.if-count-lt-MASTERS.true)
    ]

pub returns : goal.returns
unfolding room_refusal
returns c = simp (le-ltb _ _ c.if-place-count.false, le-ltb _ _ c.if-count-lt-MASTERS.false)
