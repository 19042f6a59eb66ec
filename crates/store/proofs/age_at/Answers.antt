-- `store::age_at` meets its contract. Assumes nothing.
use Rattle.store.specs.Layout.{age-word}
use Rattle.store.proofs.age_at.Goals as goal

pub returns : goal.returns
returns c = rw (c.slot_at-at.ensures.0, age-word)
