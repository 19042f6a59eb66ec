-- `book::message_sound` meets its contract. Assumes nothing.
use borrow.Author.Tests.{eq-eqb, ne_eqb}
use Rattle.book.specs.Rules.{rule_at}
use Rattle.book.proofs.message_sound.Goals as goal

pub returns-then-k-eq0 : goal.returns-then-k-eq0
unfolding rule_at
returns-then-k-eq0 c = simp (← c.message_holdable.ensures, c.if-message_holdable.true, eq-eqb _ _ c.if-k-eq0.true)

pub returns-else-k-eq0 : goal.returns-else-k-eq0
unfolding rule_at
returns-else-k-eq0 c =
    simp (← c.message_holdable.ensures, c.if-message_holdable.true, ne_eqb _ _ c.if-k-eq0.false)
    c.message_follows.ensures

pub returns-else-message_holdable : goal.returns-else-message_holdable
unfolding rule_at
returns-else-message_holdable c = simp (← c.message_holdable.ensures, c.if-message_holdable.false)
