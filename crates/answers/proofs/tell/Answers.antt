-- `answers::tell` meets its contract: by what was told.
-- Assumes nothing.
use mathlib.Core.Path.{sym, ap, ◌∙◌}
use Rattle.wire.specs.Be.{put}
use Rattle.wire.proofs.BeLaws.{put-nil}
use Rattle.answers.specs.Answers.{answer_number, answer_words}
use Rattle.answers.proofs.tell.Goals as goal

pub returns-in-Err : goal.returns-in-Err
returns-in-Err c =
    let a = c.args in
    let e = sym c.in-Err.is in
    (c.number.ensures ∙ ap answer_number e, sym (put-nil a.s.now 0) ∙ ap (λ t. put a.s.now 0 (answer_words t)) e)

pub returns-in-Ok : goal.returns-in-Ok
returns-in-Ok c =
    let a = c.args in
    let e = sym c.in-Ok.is in
    (ap answer_number e, c.put_tallies.ensures ∙ ap (λ t. put a.s.now 0 (answer_words t)) e)
