-- `log_line::too_long` meets its contract. Assumes nothing.
use Rattle.log_asked.proofs.Steps.{none-room, none_told}
use Rattle.log_line.proofs.too_long.Goals as goal

pub returns-then-out-lt-ANSWER_BYTES : goal.returns-then-out-lt-ANSWER_BYTES
returns-then-out-lt-ANSWER_BYTES c = none-room c.args.setup _ c.if-out-lt-ANSWER_BYTES.true

pub returns : goal.returns
returns c =
    let t = c.told.ensures in
    none_told c.args.setup _ _ _ c.if-out-lt-ANSWER_BYTES.false t.0 t.1 t.2
