-- `frame_writer::write_frame` meets its contract, by the law of each of its three ways.
-- Assumes nothing.
use Prim.Native.Nat.{◌+◌}
use mathlib.Core.Path.{sym, ◌∙◌}
use lib.ListN.{length}
use Rattle.wire.specs.Write.{wrote_15, wrote_1, wrote_0}
use Rattle.frame_writer.specs.Frame.{fits_of, with_frame}
use Rattle.frame_writer.specs.Laws.{fits-size}
use Rattle.frame_writer.proofs.write_frame.Goals as goal

pub returns-then-not-fits_wire : goal.returns-then-not-fits_wire
returns-then-not-fits_wire c =
    let a = c.args in
    wrote_15 (fits_of a.a a.tlvs.now) (length a.tlvs.now + 64) a.buffer.now _ (sym c.if-not-fits_wire.ensures)

pub returns-then-buffer-tlvs : goal.returns-then-buffer-tlvs
returns-then-buffer-tlvs c =
    let a = c.args in
    wrote_1 (fits_of a.a a.tlvs.now) (length a.tlvs.now + 64) a.buffer.now _ (sym c.if-not-fits_wire.ensures) c.if-buffer-tlvs.true

pub put_frame-requires : goal.put_frame-requires
put_frame-requires c = (c.if-buffer-tlvs.false, fits-size _ _ (sym c.if-not-fits_wire.ensures))

pub returns : goal.returns
returns c =
    let a = c.args in
    let w =
    wrote_0 (fits_of a.a a.tlvs.now) (length a.tlvs.now + 64) a.buffer.now (with_frame a.buffer.now a.a a.tlvs.now) (sym c.if-not-fits_wire.ensures) c.if-buffer-tlvs.false in
    (w.0, c.put_frame.ensures ∙ w.1)
