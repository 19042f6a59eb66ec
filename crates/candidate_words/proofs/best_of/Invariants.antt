-- `candidate_words::best_of` meets its contract. The loop's invariant: the choice over all is that over the one held and those to come.
-- Assumes nothing.
use mathlib.Core.Path.{◌≡◌}
use Rattle.std.specs.Prelude.{None}
use Rattle.choice.specs.Candidate.{keep_all}
use Rattle.candidate_words.specs.Words.{candidates_in}
use Rattle.candidate_words.proofs.Laws.{rest_of}
use Rattle.candidate_words.proofs.best_of.Given as goal

abbrev pub invariant-loop-i : goal.invariant-loop-i
invariant-loop-i l = keep_all None (candidates_in l.n l.s) ≡ keep_all l.held (rest_of l.n l.i l.s)
