-- `store::acceptable` meets its contract. Assumes nothing.
use native.Mathlib.Omega.{arith}
use mathlib.Core.Path.{◌∙◌}
use borrow.Author.Tests.{eq-eqb, ne_eqb}
use Rattle.store.specs.Search.{accepts_head, any-listed}
use Rattle.store.proofs.acceptable.Goals as goal

pub returns-then-head-eq0 : goal.returns-then-head-eq0
unfolding accepts_head
returns-then-head-eq0 c = simp (eq-eqb _ _ c.if-head-eq0.true)

pub returns-else-head-eq0 : goal.returns-else-head-eq0
unfolding accepts_head
returns-else-head-eq0 c =
    let a = c.args in
    simp (ne_eqb _ _ c.if-head-eq0.false) (c.contains.ensures.value ∙ any-listed a.clock a.head.now 4 _ (omega arith))
