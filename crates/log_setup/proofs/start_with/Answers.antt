-- `log_setup::start_with` meets its contract. Assumes nothing.
use mathlib.Core.Path.{sym, ap, ◌∙◌}
use native.Mathlib.Omega.{arith}
use lib.Seq.{length-take-le}
use Rattle.log_setup.specs.Start.{intervals_at}
use Rattle.log_setup.specs.Steps.{starts}
use Rattle.log_setup.proofs.start_with.Goals as goal

pub slice_bounds-fresh_start-end-2 : goal.slice_bounds-fresh_start-end-2
slice_bounds-fresh_start-end-2 c =
    let b = c in
    sym (length-take-le _ _ (omega (arith, b.count_at-count.ensures.1, b.read_intervals.auto, b.requires)))

pub returns : goal.returns
returns c =
    let e = c.fresh_start.ensures in
    let b = c in
    let n = b.count_at-count.ensures.0 in
    let a = b.args in
    let p = b.requires in
    let ns = b.read_intervals.ensures ∙ ap (intervals_at a.line.now) n in
    starts a.line.now a.store.now _ _ a.nobody.now _ _ b.u64_at-own.ensures ns p.3 e.value e.store_after
