-- `rillarch::rillarch_read_frame` meets its contract.
-- Assumes nothing.
use mathlib.Core.Path.{ap, ◌∙◌}
use Rattle.wire.specs.Be.{put}
use Rattle.lent.specs.Laws.{lent-short, lent-enough}
use Rattle.answers.specs.Answers.{frame_size, frame_number, frame_words}
use Rattle.rillarch.proofs.rillarch_read_frame.Goals as goal

pub returns-then-answer-lt-FRAME_WORDS : goal.returns-then-answer-lt-FRAME_WORDS
returns-then-answer-lt-FRAME_WORDS c =
    let a = c.args.answer.now in
    record { value = lent-short frame_size a 1 _ c.if-answer-lt-FRAME_WORDS.true; answer_after = lent-short frame_size a a _ c.if-answer-lt-FRAME_WORDS.true }

pub returns : goal.returns
returns c =
    let a = c.args.answer.now in
    let room = c.if-answer-lt-FRAME_WORDS.false in
    let told = c.read_frame.ensures in
    let m = c.tell_frame.ensures in
    record { value = m.0 ∙ ap frame_number told ∙ lent-enough frame_size a 1 _ room; answer_after = m.1 ∙ ap (λ t. put a 0 (frame_words t)) told ∙ lent-enough frame_size a a _ room }
