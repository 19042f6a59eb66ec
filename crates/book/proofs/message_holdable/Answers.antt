-- `book::message_holdable` meets its contract. Assumes nothing.
use borrow.Author.Tests.{lt-ltb, le-ltb}
use Rattle.book.proofs.Rules.{holdable-word}
use Rattle.book.proofs.message_holdable.Goals as goal

pub returns-then-steps_at-lt255 : goal.returns-then-steps_at-lt255
returns-then-steps_at-lt255 c = rw (holdable-word _ _ _) (simp (← c.steps_at.ensures, ← c.age_at.ensures, lt-ltb _ _ c.if-steps_at-lt255.true))

pub returns-else-steps_at-lt255 : goal.returns-else-steps_at-lt255
returns-else-steps_at-lt255 c = rw (holdable-word _ _ _) (simp (← c.steps_at.ensures, le-ltb _ _ c.if-steps_at-lt255.false))
