-- `wire::put_bytes` meets its contract: what was copied into the part from `at` on is put into the whole.
-- Assumes nothing.
use Rattle.std.proofs.Common.{◌≡◌, ◌+◌, ◌-◌, length, arith, append_assoc, drop-drop}
use Rattle.wire.specs.Be.{put}
use Rattle.wire.proofs.put_bytes.Goals as goal

pub returns : goal.returns
unfolding put
returns c =
    let a = c.args in
    let s = a.s.now in
    let bs = a.bs.now in
    let n : a.at + length bs - a.at ≡ length bs = omega arith in
    rw (n, c.copy_from_slice.ensures.after, drop-drop, append_assoc)
