-- `book::master_sound` meets its contract. Assumes nothing.
use borrow.Author.Tests.{lt-leb, le-leb, eq-eqb, ne_eqb}
use Rattle.book.specs.Rules.{master_sound}
use Rattle.book.proofs.master_sound.Goals.{then-count-lt1-via-then-count-lt1, then-count-lt1-via-else-count-lt1+then-count-gt8, then-count-lt1-via-else-count-lt1+else-count-gt8+then-clock-head, then-count-lt1-via-else-count-lt1+else-count-gt8+else-clock-head+then-not-acceptable}
use Rattle.book.proofs.master_sound.Goals as goal

pub returns-then-count-lt1 : goal.returns-then-count-lt1
unfolding master_sound
returns-then-count-lt1 c =
    elim c.then-count-lt1.branch [
      | then-count-lt1-via-then-count-lt1 w ↦ simp (lt-leb _ _ w.if-count-lt1.true)
      | then-count-lt1-via-else-count-lt1+then-count-gt8 w ↦ simp (le-leb _ _ w.if-count-lt1.false, lt-leb _ _ w.if-count-gt8.true)
      | then-count-lt1-via-else-count-lt1+else-count-gt8+then-clock-head w ↦ simp (le-leb _ _ w.if-count-lt1.false, le-leb _ _ w.if-count-gt8.false, eq-eqb _ _ w.if-clock-head.true)
      | then-count-lt1-via-else-count-lt1+else-count-gt8+else-clock-head+then-not-acceptable w ↦ simp (le-leb _ _ w.if-count-lt1.false, le-leb _ _ w.if-count-gt8.false, ne_eqb _ _ w.if-clock-head.false, ← w.acceptable.ensures, w.if-not-acceptable.true)
    ]

pub returns : goal.returns
unfolding master_sound
returns c =
    simp (le-leb _ _ c.if-count-lt1.false, le-leb _ _ c.if-count-gt8.false, ne_eqb _ _ c.if-clock-head.false, ← c.acceptable.ensures, c.if-not-acceptable.false)
    c.messages_sound.ensures
