-- `hex_line::put_hex` meets its contract. Assumes nothing.
use mathlib.Core.Path.{refl}
use native.Mathlib.Omega.{arith}
use native.Mathlib.Numerals.{add-one}
use lib.ListN.{length-set}
use Rattle.hex_line.proofs.put_hex.Goals as goal

pub returns : goal.returns
returns c = rw (c.upper.ensures, c.upper-2.ensures, add-one) refl

pub bounds-out-at-2 : goal.bounds-out-at-2
bounds-out-at-2 c = simp length-set (omega arith)
