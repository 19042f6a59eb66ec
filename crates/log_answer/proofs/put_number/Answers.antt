-- `log_answer::put_number` meets its contract. Assumes nothing.
use mathlib.Core.Path.{ap, ◌∙◌}
use lib.ListN.{set}
use Rattle.log_answer.specs.Steps.{number-text}
use Rattle.log_answer.proofs.put_number.Goals as goal

pub returns : goal.returns
returns c = ap (λ l. set l 2 10) c.put_hex.ensures ∙ number-text _ _
