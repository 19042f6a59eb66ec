-- `announce_writer::reserved_of` meets its contract: the byte is read at its place.
-- Assumes nothing.
use Rattle.announce.specs.Wire.{reserved_of}
use Rattle.announce_writer.proofs.reserved_of.Goals as goal

pub returns : goal.returns
unfolding reserved_of
returns c = c.u8_at.ensures
