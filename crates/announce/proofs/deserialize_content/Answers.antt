-- `announce::deserialize_content` meets its contract, by the law of each of its two ways.
-- Assumes nothing.
use Rattle.announce.proofs.Laws.{read_1, read_0}
use Rattle.announce.proofs.deserialize_content.Goals as goal

pub returns-then-buffer-lt-CONTENT_SIZE : goal.returns-then-buffer-lt-CONTENT_SIZE
returns-then-buffer-lt-CONTENT_SIZE c = read_1 c.args.header c.args.buffer.now c.if-buffer-lt-CONTENT_SIZE.true

pub returns : goal.returns
returns c =
    let a = c.args in
    rw c.content_at.ensures (read_0 a.header a.buffer.now c.if-buffer-lt-CONTENT_SIZE.false)
