-- `header::deserialize_header` meets its contract, by the law of each of its three ways.
-- Assumes nothing.
use Rattle.std.proofs.lemmas.Result.{err_from_is_err_and}
use Rattle.message_type.specs.Types.{type-known, type-reserved}
use Rattle.header.proofs.Laws.{read_1, read_2, read_0}
use Rattle.header.proofs.deserialize_header.Goals as goal

pub returns-then-buffer-lt-HEADER_SIZE : goal.returns-then-buffer-lt-HEADER_SIZE
returns-then-buffer-lt-HEADER_SIZE c = read_1 c.args.buffer.now c.if-buffer-lt-HEADER_SIZE.true

pub returns-in_err-message_type : goal.returns-in_err-message_type
returns-in_err-message_type c =
    let p = err_from_is_err_and c.from_residual.result c.from_residual.ensures.1 in
    let r = type-reserved _ _ (rw c.u8_at.ensures at c.in_err-message_type.ensures) in
    rw (p.1, p.2, r.1) (read_2 c.args.buffer.now c.if-buffer-lt-HEADER_SIZE.false r.0)

pub returns : goal.returns
returns c =
    let t = type-known _ _ (rw c.u8_at.ensures at c.in_ok-message_type.ensures) in
    rw (c.u16_at.ensures, c.header_at.ensures) (read_0 c.args.buffer.now _ c.if-buffer-lt-HEADER_SIZE.false t)
