-- `candidate_words::candidate_of` meets its contract: each field is its word, to the width of the field.
-- Assumes nothing.
use mathlib.Core.Path.{refl}
use Rattle.candidate_words.specs.Words.{candidate_in}
use Rattle.candidate_words.proofs.candidate_of.Goals as goal

pub returns : goal.returns
unfolding candidate_in
returns c = refl
