-- `refusal::in_order` meets its contract. Assumes nothing.
use borrow.Author.Tests.{le-leb, lt-leb}
use Rattle.slot.specs.Blocks.{part-block}
use Rattle.refusal.specs.Refusal.{order_at}
use Rattle.refusal.proofs.in_order.Goals as goal

pub returns-then-count-place : goal.returns-then-count-place
unfolding order_at
returns-then-count-place c = simp (le-leb _ _ c.if-count-place.true)

pub overflow_sub-last : goal.overflow_sub-last
overflow_sub-last c = rw part-block (c.requires.bound c.if-count-place.false)

pub returns : goal.returns
unfolding order_at
returns c = simp (lt-leb _ _ c.if-count-place.false, ← (rw part-block at c.sequence_at.ensures.0)) c.in_step.ensures
