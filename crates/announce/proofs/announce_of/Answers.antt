-- `announce::announce_of` meets its contract: the literal is the definition's but for the signed field, which went through its bits.
-- Assumes nothing.
use mathlib.Core.Path.{ap}
use lib.IntN.{ℤ}
use mir.Syntax.{w16}
use Rattle.wire.proofs.Sign.{kept}
use Rattle.announce.specs.Wire.{announce_with, announce_of}
use Rattle.announce.proofs.announce_of.Goals as goal

pub returns : goal.returns
unfolding announce_with announce_of
returns c =
    let a = c.args in
    let f = c.ranges in
    ap
    (λ (z : ℤ).
    announce_with a.header a.seconds a.nanos z a.priority1 a.class a.accuracy a.variance a.priority2 a.grandmaster a.steps a.source)
    (kept w16 a.utc_offset f.utc_offset c.cast_signed.ensures)
