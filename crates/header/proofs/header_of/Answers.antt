-- `header::header_of` meets its contract: the literal is the definition's but for the two signed fields, which went through their bits.
-- Assumes nothing.
use mir.Syntax.{w8, w64}
use mathlib.Core.Path.{ap₂}
use lib.IntN.{ℤ}
use Rattle.wire.proofs.Sign.{kept}
use Rattle.header.specs.Wire.{header_with, header_of}
use Rattle.header.proofs.header_of.Goals as goal

pub returns : goal.returns
unfolding header_with header_of
returns c =
    let a = c.args in
    let f = c.ranges in
    ap₂
    (λ (x y : ℤ). header_with a.sdo_type a.versions a.domain a.sdo_low a.flags6 a.flags7 x a.source a.sequence y)
    (kept w64 a.correction f.correction c.cast_signed.ensures)
    (kept w8 a.interval f.interval c.cast_signed-2.ensures)
