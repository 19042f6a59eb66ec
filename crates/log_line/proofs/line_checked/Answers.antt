-- `log_line::line_checked` meets its contract. Assumes nothing.
use Rattle.log_asked.proofs.Steps.{no_room, room}
use Rattle.log_line.proofs.line_checked.Goals as goal

pub returns-then-out-lt-ANSWER_BYTES : goal.returns-then-out-lt-ANSWER_BYTES
returns-then-out-lt-ANSWER_BYTES c =
    let a = c.args in
    let p = no_room a.setup a.line.now a.store.now a.out.now c.if-out-lt-ANSWER_BYTES.true in
    record { value = p.0; store_after = p.1; out_after = p.2 }

pub returns : goal.returns
returns c =
    let b = c in
    let a = b.args in
    let p = room a.setup a.line.now a.store.now a.out.now _ _ _ b.if-out-lt-ANSWER_BYTES.false c.spelled.ensures in
    record { value = p.0; store_after = p.1; out_after = p.2 }
