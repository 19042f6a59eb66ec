-- `compare_same_identity` meets its contract: each return is a case of figure 35.
-- Assumes nothing.
use mathlib.Core.Path.{sym, ◌∙◌}
use Rattle.compare.proofs.Laws.{far-above, far-below, above, below, level}
use borrow.Author.Rules.{rules}
use Rattle.compare.proofs.ComparisonDataset.compare_same_identity.Goals as goal

pub overflow_cast-a : goal.overflow_cast-a
overflow_cast-a c = search rules

pub overflow_cast-b : goal.overflow_cast-b
overflow_cast-b c = search rules

pub overflow_add-b : goal.overflow_add-b
overflow_add-b c = search rules

pub returns-then-b-a : goal.returns-then-b-a
returns-then-b-a c = sym (far-above _ _ c.if-b-a.true)

pub overflow_add-a : goal.overflow_add-a
overflow_add-a c = search rules

pub returns-then-a-b : goal.returns-then-a-b
returns-then-a-b c = sym (far-below _ _ c.if-a-b.true)

pub farther-requires : goal.farther-requires
farther-requires c = search rules

pub returns-then-b-a-2 : goal.returns-then-b-a-2
returns-then-b-a-2 c = c.farther.ensures ∙ sym (above _ _ c.if-b-a-2.true c.if-b-a.false)

pub nearer-requires : goal.nearer-requires
nearer-requires c = search rules

pub returns-then-a-b-2 : goal.returns-then-a-b-2
returns-then-a-b-2 c = c.nearer.ensures ∙ sym (below _ _ c.if-a-b-2.true c.if-a-b.false)

pub compare_topology-requires : goal.compare_topology-requires
compare_topology-requires c = search rules

pub returns : goal.returns
returns c = c.compare_topology.ensures ∙ sym (level _ _ c.if-b-a-2.false c.if-a-b-2.false)
