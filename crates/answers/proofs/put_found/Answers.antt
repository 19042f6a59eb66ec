-- `answers::put_found` meets its contract.
-- Assumes nothing.
use mathlib.Core.Path.{ap, ◌∙◌}
use native.Mathlib.Omega.{arith}
use lib.ListN.{length}
use Rattle.lent.specs.Laws.{put_front, length_front}
use Rattle.candidate_words.specs.Words.{candidate_words}
use Rattle.answers.proofs.put_found.Goals as goal

pub shape_of-s : goal.shape_of-s
unfolding candidate_words
shape_of-s c =
    let a = c.args in
    ap length c.put_candidate.ensures ∙ length_front a.s.now 0 1 (candidate_words a.c) (omega (arith, c.requires))

pub returns : goal.returns
unfolding candidate_words
returns c =
    let a = c.args in
    c.put_candidate.ensures ∙ put_front a.s.now 0 1 (candidate_words a.c) (omega (arith, c.requires))
