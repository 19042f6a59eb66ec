-- `rillarch::rillarch_candidate` meets its contract.
-- Assumes nothing.
use mathlib.Core.Path.{ap, ◌∙◌}
use Rattle.wire.specs.Be.{put}
use Rattle.lent.specs.Laws.{lent-short, lent-enough}
use Rattle.answers.specs.Answers.{found_size, candidate_number, candidate_told}
use Rattle.rillarch.proofs.rillarch_candidate.Goals as goal

pub returns-then-answer-lt-FOUND_WORDS : goal.returns-then-answer-lt-FOUND_WORDS
returns-then-answer-lt-FOUND_WORDS c =
    let a = c.args.answer.now in
    record { value = lent-short found_size a 1 _ c.if-answer-lt-FOUND_WORDS.true; answer_after = lent-short found_size a a _ c.if-answer-lt-FOUND_WORDS.true }

pub returns : goal.returns
returns c =
    let a = c.args.answer.now in
    let room = c.if-answer-lt-FOUND_WORDS.false in
    let told = c.candidate.ensures in
    let m = c.tell_candidate.ensures in
    record { value = m.0 ∙ ap candidate_number told ∙ lent-enough found_size a 1 _ room; answer_after = m.1 ∙ ap (λ t. put a 0 (candidate_told t)) told ∙ lent-enough found_size a a _ room }
