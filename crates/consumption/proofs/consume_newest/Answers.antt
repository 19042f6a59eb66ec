-- `consumption::consume_newest` meets its contract. Assumes nothing.
use mathlib.Core.Path.{refl}
use Rattle.consumption.specs.Consume.{consumed}
use Rattle.consumption.proofs.consume_newest.Goals as goal

pub returns : goal.returns
unfolding consumed
returns c = refl
