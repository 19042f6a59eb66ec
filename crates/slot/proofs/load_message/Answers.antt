-- `slot::load_message` meets its contract: the words are read, and the callees give what they hold.
-- Assumes nothing.
use Rattle.slot.specs.Slot.{decode}
use Rattle.slot.proofs.load_message.Goals as goal

pub returns : goal.returns
unfolding decode
returns c = rw (c.unpack_message-message.ensures, c.unpack_header-header.ensures)
