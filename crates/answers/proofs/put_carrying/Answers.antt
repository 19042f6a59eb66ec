-- `answers::put_carrying` meets its contract.
-- Assumes nothing.
use mathlib.Core.Path.{ap, ◌∙◌}
use native.Mathlib.Omega.{arith}
use lib.ListN.{length, length-set}
use Rattle.lent.specs.Laws.{put_front, length_front}
use Rattle.announce_words.specs.Words.{announce_words}
use Rattle.answers.proofs.put_carrying.Goals as goal

pub put_announce-requires : goal.put_announce-requires
put_announce-requires c = simp length-set (omega (arith, c.requires))

pub shape_of-s : goal.shape_of-s
unfolding announce_words
shape_of-s c =
    let a = c.args in
    ap length c.put_announce.ensures ∙ length_front a.s.now a.at a.n (announce_words a.m) (omega (arith, c.requires))

pub returns : goal.returns
unfolding announce_words
returns c =
    let a = c.args in
    c.put_announce.ensures ∙ put_front a.s.now a.at a.n (announce_words a.m) (omega (arith, c.requires))
