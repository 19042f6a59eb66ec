-- `same::same_message` meets its contract.
-- Assumes nothing.
use mathlib.Core.Path.{◌∙◌}
use Rattle.same.specs.Same.{message, same_message}
use Rattle.same.proofs.Derived.{agree, message_derived}
use Rattle.same.proofs.same_message.Goals as goal

pub returns : goal.returns
unfolding same_message
returns c = c.eq.ensures ∙ agree message_derived message c.args.ours c.args.theirs
