-- `wire::put_be` meets its contract: what is left to write leads, from any turn, to the same list.
-- Assumes nothing.
use mathlib.Core.Path.{◌≡◌, sym, ◌∙◌}
use native.Mathlib.Omega.{arith}
use lib.ListN.{length-set}
use Rattle.wire.specs.Be.{bytes_of}
use Rattle.wire.proofs.BeLaws.{put-nil, put_lowest}
use Rattle.wire.proofs.put_be.Goals as goal

pub loop-left-preserved : goal.loop-left-preserved
loop-left-preserved c =
    let l = c.loop-left in
    (simp length-set l.invariant.0, put_lowest l.s _ l.left l.rest (omega arith) (omega arith) ∙ l.invariant.1)

pub returns : goal.returns
unfolding bytes_of
returns c =
    let l = c.loop-left in
    let e : l.left ≡ 0 = omega arith in
    sym (put-nil l.s _) ∙ (rw e at l.invariant.1)
