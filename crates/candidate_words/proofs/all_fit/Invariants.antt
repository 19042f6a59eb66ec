-- `candidate_words::all_fit` meets its contract. The loop's invariant: what is still to be looked at decides.
-- Assumes nothing.
use mathlib.Core.Path.{◌≡◌}
use Rattle.candidate_words.specs.Words.{fits_all}
use Rattle.candidate_words.proofs.Laws.{rest_fits}
use Rattle.candidate_words.proofs.all_fit.Given as goal

abbrev pub invariant-loop-i : goal.invariant-loop-i
invariant-loop-i l = fits_all l.n l.s ≡ rest_fits l.n l.i l.s
