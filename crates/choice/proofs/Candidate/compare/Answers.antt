-- `compare` meets its contract: the verdict as an order, then the ages.
-- Assumes nothing.
use mathlib.Core.Path.{ap, ap₂, ◌∙◌}
use Rattle.order.specs.Order.{then_by}
use Rattle.order.specs.Rows.{cmp-library}
use Rattle.compare.specs.Dataset.{as_ordering}
use Rattle.choice.specs.Candidate.{ranking}
use Rattle.choice.proofs.Candidate.compare.Goals as goal

pub returns : goal.returns
unfolding ranking
returns c =
    c.then.ensures
    ∙ ap₂ then_by (c.as_ordering.ensures ∙ ap as_ordering c.compare_dataset.ensures) (c.cmp-tie_break.ensures ∙ cmp-library c.args.other.age c.args.self.age)
