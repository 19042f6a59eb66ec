-- `refusal::refusal_at` meets its contract. Assumes nothing.
use borrow.Author.Tests.{le-leb, lt-leb, eq-eqb, ne_eqb}
use Rattle.book.proofs.Rules.{held-master}
use Rattle.refusal.specs.Refusal.{refusal_at}
use Rattle.refusal.proofs.refusal_at.Goals as goal

pub returns-then-same_port : goal.returns-then-same_port
unfolding refusal_at
returns-then-same_port c = simp (← c.same_port.ensures, c.if-same_port.true)

pub returns-then-not-acceptable : goal.returns-then-not-acceptable
unfolding refusal_at
returns-then-not-acceptable c = simp (← c.same_port.ensures, c.if-same_port.false, ← c.acceptable.ensures, c.if-not-acceptable.true)

pub returns-then-source-head : goal.returns-then-source-head
unfolding refusal_at
returns-then-source-head c = simp (← c.same_port.ensures, c.if-same_port.false, ← c.acceptable.ensures, c.if-not-acceptable.false, eq-eqb _ _ c.if-source-head.true)

pub in_order-requires : goal.in_order-requires
in_order-requires c = let a = c in record { port_len = (a.requires.head_len.1, a.requires.held_port.masters); bound = λ l. (held-master a.args.head.now a.args.port.now c.find_master-place.result (a.requires.held_port.master c.find_master-place.result l)).some }

pub returns-then-not-in_order : goal.returns-then-not-in_order
unfolding refusal_at
returns-then-not-in_order c = simp (← c.same_port.ensures, c.if-same_port.false, ← c.acceptable.ensures, c.if-not-acceptable.false, ne_eqb _ _ c.if-source-head.false, ← c.find_master-place.ensures, ← c.in_order.ensures, c.if-not-in_order.true)

pub returns-then-steps-ge255 : goal.returns-then-steps-ge255
unfolding refusal_at
returns-then-steps-ge255 c = simp (← c.same_port.ensures, c.if-same_port.false, ← c.acceptable.ensures, c.if-not-acceptable.false, ne_eqb _ _ c.if-source-head.false, ← c.find_master-place.ensures, ← c.in_order.ensures, c.if-not-in_order.false, le-leb _ _ c.if-steps-ge255.true)

pub returns : goal.returns
unfolding refusal_at
returns c = simp (← c.same_port.ensures, c.if-same_port.false, ← c.acceptable.ensures, c.if-not-acceptable.false, ne_eqb _ _ c.if-source-head.false, ← c.find_master-place.ensures, ← c.in_order.ensures, c.if-not-in_order.false, lt-leb _ _ c.if-steps-ge255.false) c.room_refusal.ensures
