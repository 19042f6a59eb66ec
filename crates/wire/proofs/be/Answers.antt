-- `wire::be` meets its contract: after i bytes x is the number of the first i.
-- Assumes nothing.
use Prim.Native.Nat.{◌+◌}
use mathlib.Core.Path.{refl}
use native.Mathlib.Omega.{arith}
use native.Mathlib.Numerals.{add-one}
use lib.Dec.{lit<}
use Rattle.wire.specs.Be.{be_at}
use Rattle.wire.proofs.BeLaws.{more, more-fits}
use Rattle.wire.proofs.be.Goals as goal

pub loop-i-init : goal.loop-i-init
unfolding be_at
loop-i-init c = (refl, omega arith)

pub overflow_mul-x : goal.overflow_mul-x
overflow_mul-x c =
    let l = c.loop-i in
    omega (arith, more-fits l.i (omega arith) l.invariant.1 (lit< {m = 0} {n = 256} tt))

pub overflow_add-x-in-loop-i : goal.overflow_add-x-in-loop-i
overflow_add-x-in-loop-i c =
    let l = c.loop-i in
    let b = c.type_inv.s (c.args.at + l.i) in
    record { fits = more-fits l.i (omega arith) l.invariant.1 b.fits }

pub loop-i-preserved : goal.loop-i-preserved
unfolding be_at
loop-i-preserved c =
    let l = c.loop-i in
    let b = c.type_inv.s (c.args.at + l.i) in
    (rw (add-one, l.invariant.0) refl, more l.i l.invariant.1 b.fits)
