-- `book::master_placed` meets its contract. Assumes nothing.
use borrow.Author.Tests.{eq-eqb, ne_eqb}
use Rattle.slot.specs.Blocks.{part-block}
use Rattle.book.specs.Rules.{placed}
use Rattle.book.proofs.master_placed.Goals as goal

pub returns-then-find_master-i : goal.returns-then-find_master-i
unfolding placed
returns-then-find_master-i c =
    simp (← (rw part-block at c.find_master.ensures), eq-eqb _ _ c.if-find_master-i.true)
    (rw part-block at c.master_sound.ensures)

pub returns-else-find_master-i : goal.returns-else-find_master-i
unfolding placed
returns-else-find_master-i c = simp (← (rw part-block at c.find_master.ensures), ne_eqb _ _ c.if-find_master-i.false)
