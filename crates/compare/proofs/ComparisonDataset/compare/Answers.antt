-- `compare` meets its contract: by whether the grandmasters are the same.
-- Assumes nothing.
use mathlib.Core.Path.{sym, ◌∙◌}
use Rattle.compare.proofs.Laws.{same-grandmaster, other-grandmaster}
use borrow.Author.Rules.{rules}
use Rattle.compare.proofs.ComparisonDataset.compare.Goals as goal

pub compare_same_identity-requires : goal.compare_same_identity-requires
compare_same_identity-requires c = search rules

pub compare_different_identity-requires : goal.compare_different_identity-requires
compare_different_identity-requires c = search rules

pub returns-then-self-other : goal.returns-then-self-other
returns-then-self-other c = c.compare_same_identity.ensures ∙ sym (same-grandmaster _ _ c.if-self-other.true)

pub returns-else-self-other : goal.returns-else-self-other
returns-else-self-other c = c.compare_different_identity.ensures ∙ sym (other-grandmaster _ _ c.if-self-other.false)
