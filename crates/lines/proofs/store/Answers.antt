-- `lines::store` meets its contract: what was copied is the run that leads to the same answer. Assumes nothing.
use Rattle.std.proofs.Common.{◌≡◌, ◌+◌, ◌-◌, arith}
use Rattle.lines.proofs.Turns.{kept-copy}
use Rattle.lines.proofs.store.Goals as goal

pub returns : goal.returns
returns c =
    let a = c.args in
    let e : a.count + (a.end - a.from) - a.count ≡ a.end - a.from = omega arith in
    let r = c.requires in
    rw (e, c.copy_from_slice.ensures.after) (kept-copy a.buffer.now a.piece.now a.count a.from a.end r.0 r.1 r.2 r.3)
