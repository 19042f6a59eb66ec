-- `rillarch::rillarch_compare` meets its contract.
-- Assumes nothing.
use Prim.Native.Nat.{ℕ}
use mathlib.Core.List.{[], ◌∷◌}
use mathlib.Core.Path.{◌≡◌, sym, ap, ap₂, ◌∙◌}
use Rattle.refused.specs.Refusal.{number_in}
use Rattle.wire.specs.Be.{put}
use Rattle.lent.specs.Laws.{lent-short, lent-enough, lent-room}
use Rattle.wire.proofs.BeLaws.{put-nil}
use Rattle.compare.specs.Dataset.{compare_of}
use Rattle.choice.specs.declared.Candidate.{Candidate}
use Rattle.choice.specs.Candidate.{dataset_of}
use Rattle.lent.specs.Laws.{put_one}
use Rattle.candidate_words.specs.Words.{candidate_size, candidate_in}
use Rattle.answers.specs.Answers.{verdict_number}
use Rattle.rillarch.proofs.Laws.{number-nonzero, compare_none, compare_done, compare_rooms}
use Rattle.rillarch.proofs.rillarch_compare.Goals as goal

pub returns-then-answer-lt1 : goal.returns-then-answer-lt1
returns-then-answer-lt1 c =
    let a = c.args.answer.now in
    record { value = lent-short 1 a 1 _ c.if-answer-lt1.true; answer_after = lent-short 1 a a _ c.if-answer-lt1.true }

pub returns-in-Err : goal.returns-in-Err
returns-in-Err c =
    let p = c.args in
    let a = p.answer.now in
    let room = c.if-answer-lt1.false in
    let n = ap number_in (sym c.in-Err.is) ∙ c.check_both.ensures in
    record { value = c.number.ensures ∙ n ∙ lent-enough 1 a 1 _ room; answer_after = sym (put-nil a 0) ∙ ap (put a 0) (compare_none p.left.now p.right.now (λ z. number-nonzero c.in-Err.e (n ∙ z))) ∙ lent-enough 1 a a _ room }

pub candidate_of-ours-requires : goal.candidate_of-ours-requires
candidate_of-ours-requires c = lent-room candidate_size _ _ (compare_rooms c.args.left.now c.args.right.now (sym c.check_both.ensures ∙ ap number_in c.in-Ok.is)).0

pub candidate_of-theirs-requires : goal.candidate_of-theirs-requires
candidate_of-theirs-requires c = lent-room candidate_size _ _ (compare_rooms c.args.left.now c.args.right.now (sym c.check_both.ensures ∙ ap number_in c.in-Ok.is)).1

pub returns-in-Ok : goal.returns-in-Ok
returns-in-Ok c =
    let p = c.args in
    let a = p.answer.now in
    let l = p.left.now in
    let r = p.right.now in
    let room = c.if-answer-lt1.false in
    let y = sym c.check_both.ensures ∙ ap number_in c.in-Ok.is in
    let verdict : c.verdict_number.result ≡ verdict_number (compare_of (dataset_of (candidate_in l)) (dataset_of (candidate_in r))) =
    c.verdict_number.ensures
    ∙ ap verdict_number
    (c.compare_dataset.ensures ∙ ap₂ (λ (x y : Candidate). compare_of (dataset_of x) (dataset_of y)) c.candidate_of-ours.ensures c.candidate_of-theirs.ensures) in
    record { value = sym y ∙ lent-enough 1 a 1 _ room; answer_after = put_one a 0 c.verdict_number.result room ∙ ap (λ (n : ℕ). put a 0 (n ∷ [])) verdict ∙ ap (put a 0) (compare_done l r y) ∙ lent-enough 1 a a _ room }
