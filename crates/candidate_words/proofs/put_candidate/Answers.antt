-- `candidate_words::put_candidate` meets its contract: the words are those of the fields.
-- Assumes nothing.
use Rattle.candidate_words.specs.Words.{candidate_words}
use Rattle.candidate_words.proofs.put_candidate.Goals as goal

pub returns : goal.returns
unfolding candidate_words
returns c = rw c.put_words.ensures
