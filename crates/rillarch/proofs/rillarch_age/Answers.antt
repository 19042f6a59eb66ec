-- `rillarch::rillarch_age` meets its contract.
-- Assumes nothing.
use mathlib.Core.Path.{ap, ◌∙◌}
use Rattle.wire.specs.Be.{put}
use Rattle.lent.specs.Laws.{lent-short, lent-enough}
use Rattle.answers.specs.Answers.{tally_size, answer_number, answer_words}
use Rattle.rillarch.proofs.rillarch_age.Goals as goal

pub returns-then-answer-lt-TALLY_WORDS : goal.returns-then-answer-lt-TALLY_WORDS
returns-then-answer-lt-TALLY_WORDS c =
    let a = c.args.answer.now in
    let s = c.args.store.now in
    record { value = lent-short tally_size a 1 _ c.if-answer-lt-TALLY_WORDS.true; store_after = lent-short tally_size a s _ c.if-answer-lt-TALLY_WORDS.true; answer_after = lent-short tally_size a a _ c.if-answer-lt-TALLY_WORDS.true }

pub returns : goal.returns
returns c =
    let a = c.args.answer.now in
    let s = c.args.store.now in
    let room = c.if-answer-lt-TALLY_WORDS.false in
    let told = c.step_age.ensures in
    let m = c.tell.ensures in
    record { value = m.0 ∙ ap answer_number told.0 ∙ lent-enough tally_size a 1 _ room; store_after = told.1 ∙ lent-enough tally_size a s _ room; answer_after = m.1 ∙ ap (λ t. put a 0 (answer_words t)) told.0 ∙ lent-enough tally_size a a _ room }
