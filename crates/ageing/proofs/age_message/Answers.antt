-- `ageing::age_message` meets its contract. Assumes nothing.
use Rattle.ageing.specs.Age.{older_at}
use Rattle.ageing.proofs.age_message.Goals as goal

pub returns : goal.returns
unfolding older_at
returns c = simp (c.slot_at-at.ensures.0, c.wrapping_add_u64-age.ensures.value)
