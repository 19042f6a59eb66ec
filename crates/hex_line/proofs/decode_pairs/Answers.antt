-- `hex_line::decode_pairs` meets its contract: the pairs that are left lead, from any turn, to the same bytes. Assumes nothing.
use native.Mathlib.Omega.{arith}
use lib.ListN.{length-set}
use Rattle.hex_line.proofs.HexLaws.{at-end, pair, onward}
use Rattle.hex_line.proofs.decode_pairs.Goals as goal

pub loop-i-preserved : goal.loop-i-preserved
loop-i-preserved c =
    let l = c.loop-i in
    let d = c.digit-high in
    let e = c.digit-low in
    let p = pair c.args.line.now l.i (omega arith) in (
      rw (d.ensures.0, e.ensures.0) (onward l.out l.i _ _ _ _ l.invariant.0 p.0),
      omega (arith, p.1),
      simp length-set l.invariant.2,
      omega arith,
    )

pub returns : goal.returns
returns c =
    let l = c.loop-i in
    let p = at-end c.args.line.now l.i (omega arith) in
    (omega (arith, p.1), rw p.0 at l.invariant.0)
