-- `rillarch::rillarch_choose` meets its contract.
-- Assumes nothing.
use mathlib.Core.Path.{sym, ap, ◌∙◌}
use Rattle.refused.specs.Refusal.{number_in}
use Rattle.wire.specs.Be.{put}
use Rattle.lent.specs.Laws.{lent-short, lent-enough}
use Rattle.wire.proofs.BeLaws.{put-nil}
use Rattle.answers.specs.Answers.{found_size, best_words}
use Rattle.rillarch.proofs.Laws.{number-nonzero, choose-none, choose-done}
use Rattle.rillarch.proofs.rillarch_choose.Goals as goal

pub returns-then-answer-lt-FOUND_WORDS : goal.returns-then-answer-lt-FOUND_WORDS
returns-then-answer-lt-FOUND_WORDS c =
    let a = c.args.answer.now in
    record { value = lent-short found_size a 1 _ c.if-answer-lt-FOUND_WORDS.true; answer_after = lent-short found_size a a _ c.if-answer-lt-FOUND_WORDS.true }

pub returns-in-Err : goal.returns-in-Err
returns-in-Err c =
    let a = c.args.answer.now in
    let ws = c.args.candidates.now in
    let room = c.if-answer-lt-FOUND_WORDS.false in
    let n = ap number_in (sym c.in-Err.is) ∙ c.list_refusal.ensures in
    record { value = c.number.ensures ∙ n ∙ lent-enough found_size a 1 _ room; answer_after = sym (put-nil a 0) ∙ ap (put a 0) (choose-none ws (λ z. number-nonzero c.in-Err.e (n ∙ z))) ∙ lent-enough found_size a a _ room }

pub returns-in-Ok : goal.returns-in-Ok
returns-in-Ok c =
    let a = c.args.answer.now in
    let ws = c.args.candidates.now in
    let room = c.if-answer-lt-FOUND_WORDS.false in
    let z = sym c.list_refusal.ensures ∙ ap number_in c.in-Ok.is in
    let m = c.tell_best.ensures in
    record { value = m.0 ∙ sym z ∙ lent-enough found_size a 1 _ room; answer_after = m.1 ∙ ap (λ t. put a 0 (best_words t)) c.find_best.ensures ∙ ap (put a 0) (choose-done ws z) ∙ lent-enough found_size a a _ room }
