-- `log_setup::read_intervals` meets its contract: the intervals so far stand in front. Assumes nothing.
use Prim.Native.Nat.{◌+◌}
use mathlib.Core.Path.{◌≡◌, refl, ap, ◌∙◌}
use native.Mathlib.Omega.{arith}
use lib.ListN.{take, set, length-set}
use Rattle.log_setup.specs.Steps.{interval-more, interval-none}
use Rattle.log_setup.proofs.read_intervals.Goals as goal

pub loop-i-init : goal.loop-i-init
loop-i-init c = (interval-none _ c.args.intervals.now, refl)

pub loop-i-preserved : goal.loop-i-preserved
loop-i-preserved c =
    let l = c.loop-i in
    let x = c.u64_at in
    (ap (λ n. take (l.i + 1) (set l.intervals l.i n)) x.ensures ∙ interval-more _ _ l.i (omega arith) l.invariant.0, simp length-set l.invariant.1)

pub returns : goal.returns
returns c =
    let l = c.loop-i in
    let e : l.i ≡ c.args.count = omega arith in
    rw e at l.invariant.0
