-- `announce_words::announce_of` meets its contract: what the callees make of the words.
-- Assumes nothing.
use Rattle.announce_words.specs.Words.{announce_in}
use Rattle.announce_words.proofs.announce_of.Goals as goal

pub returns : goal.returns
unfolding announce_in
returns c = rw (c.announce_of.ensures, c.header_of-header.ensures)
