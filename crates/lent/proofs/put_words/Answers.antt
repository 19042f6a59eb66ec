-- `lent::put_words` meets its contract: what was copied into the part from `at` on is put into the whole.
-- Assumes nothing.
use Rattle.std.proofs.Common.{◌≡◌, ◌+◌, ◌-◌, length, arith, append_assoc, drop-drop}
use Rattle.wire.specs.Be.{put}
use Rattle.lent.proofs.put_words.Goals as goal

pub returns : goal.returns
unfolding put
returns c =
    let a = c.args in
    let s = a.s.now in
    let vs = a.values.now in
    let n : a.at + length vs - a.at ≡ length vs = omega arith in
    rw (n, c.copy_from_slice.ensures.after, drop-drop, append_assoc)
