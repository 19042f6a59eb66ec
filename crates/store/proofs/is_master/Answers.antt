-- `store::is_master` meets its contract. Assumes nothing.
use borrow.Author.Tests.{eq-eqb, ne_eqb}
use Rattle.same.specs.Same.{same_port}
use Rattle.store.proofs.is_master.Goals as goal

pub returns-then-master-clock : goal.returns-then-master-clock
unfolding same_port
returns-then-master-clock c = simp (eq-eqb _ _ c.if-master-clock.true)

pub returns-else-master-clock : goal.returns-else-master-clock
unfolding same_port
returns-else-master-clock c = simp (ne_eqb _ _ c.if-master-clock.false)
