-- `compare_dataset` meets its contract: the comparison of the two sets.
-- Assumes nothing.
use mathlib.Core.Path.{ap₂, ◌∙◌}
use Rattle.compare.specs.Dataset.{compare_of}
use Rattle.choice.proofs.Candidate.compare_dataset.Goals as goal

pub returns : goal.returns
returns c = c.compare.ensures ∙ ap₂ compare_of c.dataset.ensures c.dataset-2.ensures
