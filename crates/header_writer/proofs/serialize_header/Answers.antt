-- `header_writer::serialize_header` meets its contract, by the law of each of its three ways.
-- Assumes nothing.
use Rattle.std.proofs.Common.{◌+◌, sym, ◌∙◌, arith}
use Rattle.wire.specs.Write.{wrote_15, wrote_1, wrote_0}
use Rattle.header.specs.Wire.{fits_of, with_header}
use Rattle.header.proofs.Laws.{fitting}
use Rattle.header_writer.proofs.serialize_header.Goals as goal

pub returns-then-not-fits_wire : goal.returns-then-not-fits_wire
returns-then-not-fits_wire c =
    let a = c.args in
    wrote_15 (fits_of a.h a.content_length) 34 a.buffer.now _ (sym c.if-not-fits_wire.ensures)

pub returns-then-buffer-lt-HEADER_SIZE : goal.returns-then-buffer-lt-HEADER_SIZE
returns-then-buffer-lt-HEADER_SIZE c =
    let a = c.args in
    wrote_1 (fits_of a.h a.content_length) 34 a.buffer.now _ (sym c.if-not-fits_wire.ensures) c.if-buffer-lt-HEADER_SIZE.true

pub overflow_add-size : goal.overflow_add-size
overflow_add-size c = omega (arith, fitting _ _ _ _ (sym c.if-not-fits_wire.ensures))

pub overflow_cast-size : goal.overflow_cast-size
overflow_cast-size c = omega (arith, fitting _ _ _ _ (sym c.if-not-fits_wire.ensures))

pub returns : goal.returns
returns c =
    let a = c.args in
    let w =
    wrote_0 (fits_of a.h a.content_length) 34 a.buffer.now (with_header a.buffer.now a.h a.content_type (a.content_length + 34))
    (sym c.if-not-fits_wire.ensures) c.if-buffer-lt-HEADER_SIZE.false in
    (w.0, c.put_header.ensures ∙ w.1)
