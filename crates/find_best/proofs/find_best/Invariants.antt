-- The loop of `find_best::find_best`: keeping on with what is left of the list leads to the winner of the whole list.
-- Assumes nothing.
use Rattle.std.proofs.Common.{drop, ◌≡◌}
use Rattle.choice.specs.Candidate.{winner, itself, keep_all}
use Rattle.find_best.proofs.find_best.Given as goal

abbrev pub invariant-loop-c : goal.invariant-loop-c
invariant-loop-c l = keep_all l.held (drop l.c-index l.cands) ≡ winner itself l.fn.cands
