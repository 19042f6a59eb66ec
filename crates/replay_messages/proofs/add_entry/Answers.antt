-- `replay_messages::add_entry` meets its contract: a builder that takes an entry stays within the buffer. Assumes nothing.
use Rattle.std.proofs.Common.{sym, ◌∙◌, arith}
use Rattle.tlv_builder.proofs.BuilderLaws.{added_within}
use Rattle.replay_messages.proofs.add_entry.Goals as goal

pub returns-in-Ok : goal.returns-in-Ok
returns-in-Ok c = omega (arith, added_within _ _ _ _ (sym c.add.ensures.0 ∙ c.in-Ok.is))
