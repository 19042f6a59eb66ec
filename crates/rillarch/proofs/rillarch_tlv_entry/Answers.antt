-- `rillarch::rillarch_tlv_entry` meets its contract.
-- Assumes nothing.
use mathlib.Core.Path.{ap, ◌∙◌}
use Rattle.wire.specs.Be.{put}
use Rattle.lent.specs.Laws.{lent-short, lent-enough}
use Rattle.answers.specs.Answers.{tlv_size, tlv_number, tlv_words}
use Rattle.rillarch.proofs.rillarch_tlv_entry.Goals as goal

pub returns-then-answer-lt-TLV_WORDS : goal.returns-then-answer-lt-TLV_WORDS
returns-then-answer-lt-TLV_WORDS c =
    let a = c.args.answer.now in
    record { value = lent-short tlv_size a 1 _ c.if-answer-lt-TLV_WORDS.true; answer_after = lent-short tlv_size a a _ c.if-answer-lt-TLV_WORDS.true }

pub returns : goal.returns
returns c =
    let a = c.args.answer.now in
    let room = c.if-answer-lt-TLV_WORDS.false in
    let told = c.next.ensures in
    let m = c.tell_tlv.ensures in
    record { value = m.0 ∙ ap tlv_number told ∙ lent-enough tlv_size a 1 _ room; answer_after = m.1 ∙ ap (λ t. put a 0 (tlv_words t)) told ∙ lent-enough tlv_size a a _ room }
