-- `store::steps_at` meets its contract. Assumes nothing.
use Rattle.store.specs.Layout.{steps-word}
use Rattle.store.proofs.steps_at.Goals as goal

pub returns : goal.returns
returns c = rw (c.slot_at-at.ensures.0, steps-word)
