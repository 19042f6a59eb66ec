-- `stays::grandmaster_at` meets its contract. Assumes nothing.
use Rattle.stays.specs.Words.{grandmaster-word}
use Rattle.stays.proofs.grandmaster_at.Goals as goal

pub returns : goal.returns
returns c = rw (c.slot_at-at.ensures.0, grandmaster-word)
