-- `announce_writer::serialize_content` meets its contract, by the law of each of its three ways.
-- Assumes nothing.
use mathlib.Core.Path.{sym, ◌∙◌}
use Rattle.wire.specs.Write.{wrote_15, wrote_1, wrote_0}
use Rattle.announce.specs.Wire.{fits_of, with_content}
use Rattle.announce_writer.proofs.serialize_content.Goals as goal

pub returns-then-not-fits_wire : goal.returns-then-not-fits_wire
returns-then-not-fits_wire c =
    let a = c.args in
    wrote_15 (fits_of a.a) 30 a.buffer.now _ (sym c.if-not-fits_wire.ensures)

pub returns-then-buffer-lt-CONTENT_SIZE : goal.returns-then-buffer-lt-CONTENT_SIZE
returns-then-buffer-lt-CONTENT_SIZE c =
    let a = c.args in
    wrote_1 (fits_of a.a) 30 a.buffer.now _ (sym c.if-not-fits_wire.ensures) c.if-buffer-lt-CONTENT_SIZE.true

pub returns : goal.returns
returns c =
    let a = c.args in
    let w = wrote_0 (fits_of a.a) 30 a.buffer.now (with_content a.buffer.now 0 a.a) (sym c.if-not-fits_wire.ensures) c.if-buffer-lt-CONTENT_SIZE.false in
    (w.0, c.put_content.ensures ∙ w.1)
