-- `header_writer::put_header` meets its contract: the fields are written by the layout, with the numbers that the callees give.
-- Assumes nothing.
use Rattle.header.specs.Wire.{with_header, header_widths, header_values}
use Rattle.header_writer.proofs.put_header.Goals as goal

pub returns : goal.returns
unfolding with_header header_widths header_values
returns c =
    rw (
      c.put_fields.ensures,
      c.interval_bits.ensures,
      c.control_field.ensures,
      c.correction_bits.ensures,
      c.flags7_of.ensures,
      c.flags6_of.ensures,
      c.number.ensures.0,
    )
