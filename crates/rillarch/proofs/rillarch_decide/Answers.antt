-- `rillarch::rillarch_decide` meets its contract.
-- Assumes nothing.
use mathlib.Core.Path.{ap, ◌∙◌}
use Rattle.wire.specs.Be.{put}
use Rattle.lent.specs.Laws.{lent-short, lent-enough}
use Rattle.answers.specs.Answers.{decision_size, decision_number, decision_words}
use Rattle.rillarch.proofs.rillarch_decide.Goals as goal

pub returns-then-answer-lt-DECISION_WORDS : goal.returns-then-answer-lt-DECISION_WORDS
returns-then-answer-lt-DECISION_WORDS c =
    let a = c.args.answer.now in
    let s = c.args.store.now in
    record { value = lent-short decision_size a 1 _ c.if-answer-lt-DECISION_WORDS.true; store_after = lent-short decision_size a s _ c.if-answer-lt-DECISION_WORDS.true; answer_after = lent-short decision_size a a _ c.if-answer-lt-DECISION_WORDS.true }

pub returns : goal.returns
returns c =
    let a = c.args.answer.now in
    let s = c.args.store.now in
    let room = c.if-answer-lt-DECISION_WORDS.false in
    let told = c.decide.ensures in
    let m = c.tell_decision.ensures in
    record { value = m.0 ∙ ap decision_number told.value ∙ lent-enough decision_size a 1 _ room; store_after = told.store_after ∙ lent-enough decision_size a s _ room; answer_after = m.1 ∙ ap (λ t. put a 0 (decision_words t)) told.value ∙ lent-enough decision_size a a _ room }
