-- `rillarch::rillarch_write_announce` meets its contract.
-- Assumes nothing.
use mathlib.Core.Path.{sym, ap, ◌∙◌}
use Rattle.refused.specs.Refusal.{number_in}
use Rattle.lent.specs.Laws.{lent-room}
use Rattle.frame_writer.specs.Frame.{write_answer, write_exit}
use Rattle.announce_words.specs.Words.{announce_size}
use Rattle.rillarch.proofs.Laws.{number-nonzero, write-refused, write_done}
use Rattle.rillarch.proofs.rillarch_write_announce.Goals as goal

pub returns-in-Err : goal.returns-in-Err
returns-in-Err c =
    let p = c.args in
    let n = ap number_in (sym c.in-Err.is) ∙ c.refusal.ensures in
    let m = write-refused p.announce.now p.tlvs.now p.buffer.now (λ z. number-nonzero c.in-Err.e (n ∙ z)) in
    record { value = c.number.ensures ∙ n ∙ m.0; buffer_after = m.1 }

pub announce_of-message-requires : goal.announce_of-message-requires
announce_of-message-requires c = lent-room announce_size _ _ (sym c.refusal.ensures ∙ ap number_in c.in-Ok.is)

pub returns-in-Ok : goal.returns-in-Ok
returns-in-Ok c =
    let p = c.args in
    let z = sym c.refusal.ensures ∙ ap number_in c.in-Ok.is in
    let m = c.write_frame.ensures in
    let d = write_done p.announce.now p.tlvs.now p.buffer.now z in
    let e = c.announce_of-message.ensures in
    record { value = c.number-in-Ok.ensures ∙ m.0 ∙ ap (λ t. write_answer p.buffer.now t p.tlvs.now) e ∙ d.0; buffer_after = m.1 ∙ ap (λ t. write_exit p.buffer.now t p.tlvs.now) e ∙ d.1 }
