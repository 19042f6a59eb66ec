-- `rillarch_log::answer_block` is safe and ends: each line that is found goes on in the piece. Assumes nothing.
use mathlib.Core.Path.{sym}
use Prim.Native.Nat.{◌-◌}
use native.Mathlib.Omega.{arith}
use borrow.Author.Rules.{rules}
use lib.Seq.{length-take-le}
use Rattle.rillarch_log.proofs.answer_block.Goals as goal

pub slice_bounds-piece-end : goal.slice_bounds-piece-end
slice_bounds-piece-end c = sym (length-take-le _ _ c.requires.0)

pub loop-from-smaller : goal.loop-from-smaller
loop-from-smaller c =
    let f = rw c.in-Line.is at c.answer_after.ensures.step_within in
    omega (arith, f)

pub loop-from-preserved : goal.loop-from-preserved
loop-from-preserved c =
    let f = rw c.in-Line.is at c.answer_after.ensures.step_within in
    let m = c.in_ok-from.ensures in
    let i = c.loop-from.invariant in
    let k = rw c.in-Line.is at c.answer_after.ensures.step_known in
    (search rules, search rules, search rules, omega (arith, f.0, m, i.3), k)

pub returns-in-Taken : goal.returns-in-Taken
returns-in-Taken c = (search rules, rw c.in-Taken.is at c.answer_after.ensures.step_known)
