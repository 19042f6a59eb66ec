-- `frame_writer::put_frame` meets its contract: header, content and TLVs, one after the other.
-- Assumes nothing.
use Rattle.announce.proofs.Message.{with_message}
use Rattle.frame_writer.specs.Frame.{with_frame}
use Rattle.frame_writer.proofs.put_frame.Goals as goal

pub returns : goal.returns
unfolding with_frame with_message
returns c =
    rw (
      c.put_bytes.ensures,
      c.put_content.ensures,
      c.put_header.ensures,
    )
