-- `stays` meets its contract.
-- Assumes nothing.
use mathlib.Core.Path.{ap, ◌∙◌}
use Rattle.order.specs.Order.{is_greater}
use Rattle.order.specs.Rows.{greater-library}
use Rattle.choice.specs.Candidate.{stays}
use Rattle.choice.proofs.Candidate.stays.Goals as goal

pub returns : goal.returns
unfolding stays
returns c = c.is_gt.ensures ∙ greater-library c.compare.result ∙ ap is_greater c.compare.ensures
