-- `answers::put_bare` meets its contract.
-- Assumes nothing.
use mathlib.Core.Path.{ap, ◌∙◌}
use native.Mathlib.Omega.{arith}
use lib.ListN.{length, length-set}
use Rattle.lent.specs.Laws.{put_front, length_front}
use Rattle.answers.proofs.put_bare.Goals as goal

pub put_words-requires : goal.put_words-requires
put_words-requires c = simp length-set (omega (arith, c.requires))

pub shape_of-s : goal.shape_of-s
shape_of-s c =
    let a = c.args in
    ap length c.put_words.ensures ∙ length_front a.s.now a.at a.n _ (omega (arith, c.requires))

pub returns : goal.returns
returns c =
    let a = c.args in
    c.put_words.ensures ∙ put_front a.s.now a.at a.n _ (omega (arith, c.requires))
