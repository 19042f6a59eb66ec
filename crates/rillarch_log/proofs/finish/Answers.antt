-- `rillarch_log::finish` is safe: the last answer is within the output. Assumes nothing.
use native.Mathlib.Omega.{arith}
use Rattle.rillarch_log.proofs.finish.Goals as goal

pub flush-requires-in-Some : goal.flush-requires-in-Some
flush-requires-in-Some c =
    let l = c.last_answer in
    let w = rw c.in-Some.is at l.ensures.within in
    omega (arith, w, l.auto)
