-- `announce_writer::put_content` meets its contract: the fields are written by the layout, with the numbers that the callees give.
-- Assumes nothing.
use Rattle.announce.specs.Wire.{with_content, content_widths, content_values}
use Rattle.announce_writer.proofs.put_content.Goals as goal

pub returns : goal.returns
unfolding with_content content_widths content_values
returns c =
    rw (
      c.put_fields.ensures,
      c.offset_bits.ensures,
      c.reserved_of-reserved.ensures,
    )
