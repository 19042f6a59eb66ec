-- `book::message_follows` meets its contract. Assumes nothing.
use borrow.Author.Tests.{le-leb, lt-leb}
use Rattle.history.specs.Sound.{follows}
use Rattle.book.proofs.message_follows.Goals as goal

pub returns-then-age_at : goal.returns-then-age_at
unfolding follows
returns-then-age_at c =
    simp (
      ← c.age_at.ensures,
      ← c.age_at-2.ensures,
      ← c.sequence_at.ensures.0,
      ← c.sequence_at-then-age_at.ensures.0,
      le-leb _ _ c.if-age_at.true,
    )
    c.in_step.ensures

pub returns-else-age_at : goal.returns-else-age_at
unfolding follows
returns-else-age_at c = simp (← c.age_at.ensures, ← c.age_at-2.ensures, lt-leb _ _ c.if-age_at.false)
