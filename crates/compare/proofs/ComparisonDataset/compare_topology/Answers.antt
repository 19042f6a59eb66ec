-- `compare_topology` meets its contract: each return has the case that led there.
-- Assumes nothing.
use Rattle.std.proofs.Common.{sym, ap, ap₂, ◌∙◌}
use Rattle.order.specs.Order.{then_by}
use Rattle.compare.specs.Dataset.{by_topology}
use Rattle.order.specs.Rows.{cmp-library, lex-two}
use Rattle.compare.proofs.ComparisonDataset.compare_topology.Goals as goal

pub returns-in-Less : goal.returns-in-Less
returns-in-Less c = ap by_topology (sym c.in-Less.is ∙ c.then.ensures ∙ ap₂ then_by (c.cmp-senders.ensures ∙ cmp-library _ _) (c.cmp.ensures ∙ cmp-library _ _) ∙ sym (lex-two _ _ _ _))

pub returns-in-Equal : goal.returns-in-Equal
returns-in-Equal c = ap by_topology (sym c.in-Equal.is ∙ c.then.ensures ∙ ap₂ then_by (c.cmp-senders.ensures ∙ cmp-library _ _) (c.cmp.ensures ∙ cmp-library _ _) ∙ sym (lex-two _ _ _ _))

pub returns-in-Greater : goal.returns-in-Greater
returns-in-Greater c = ap by_topology (sym c.in-Greater.is ∙ c.then.ensures ∙ ap₂ then_by (c.cmp-senders.ensures ∙ cmp-library _ _) (c.cmp.ensures ∙ cmp-library _ _) ∙ sym (lex-two _ _ _ _))
