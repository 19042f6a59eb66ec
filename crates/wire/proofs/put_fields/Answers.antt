-- `wire::put_fields` meets its contract: the fields that are left lead, from any turn, to the same list.
-- Assumes nothing.
use Prim.Native.Nat.{◌<◌}
use mathlib.Core.Path.{◌≡◌, sym, ◌∙◌}
use native.Mathlib.Omega.{arith}
use lib.ListN.{length, get_or}
use Rattle.wire.specs.Be.{bytes_of, put}
use Rattle.wire.proofs.LayoutLaws.{total-next, put_all-next, put_all-end, put_all-put}
use Rattle.wire.proofs.put_fields.Goals as goal

pub loop-i-preserved : goal.loop-i-preserved
loop-i-preserved c =
    let l = c.loop-i in
    let a = c.args in
    let call = c.put_be in
    let ws = a.widths.now in
    let vs = a.values.now in
    let hw : l.i < length ws = omega arith in
    let hv : l.i < length vs = omega arith in
    let put-now : call.new.s ≡ put l.s l.p (bytes_of (get_or ws l.i 0) (get_or vs l.i 0)) = call.ensures in (
      omega arith,
      call.auto.s ∙ l.invariant.1,
      omega (arith, total-next ws l.i hw),
      rw put-now (put_all-next l.s l.p ws vs l.i hw hv ∙ l.invariant.3),
    )

pub returns : goal.returns
returns c =
    let l = c.loop-i in
    let a = c.args in
    let ws = a.widths.now in
    let vs = a.values.now in
    sym (put_all-end l.s l.p ws vs l.i (omega arith)) ∙ l.invariant.3 ∙ put_all-put a.s.now a.at ws vs (omega arith)
