-- `nearer` meets its contract: each return has the case that led there.
-- Assumes nothing.
use Rattle.std.proofs.Common.{sym, ap, ◌∙◌}
use Rattle.order.specs.Rows.{cmp-library}
use Rattle.compare.specs.Dataset.{nearer_by}
use Rattle.compare.proofs.nearer.Goals as goal

pub returns-in-Less : goal.returns-in-Less
returns-in-Less c = ap nearer_by (sym c.in-Less.is ∙ c.cmp.ensures ∙ cmp-library _ _)

pub returns-in-Equal : goal.returns-in-Equal
returns-in-Equal c = ap nearer_by (sym c.in-Equal.is ∙ c.cmp.ensures ∙ cmp-library _ _)

pub returns-in-Greater : goal.returns-in-Greater
returns-in-Greater c = ap nearer_by (sym c.in-Greater.is ∙ c.cmp.ensures ∙ cmp-library _ _)
