-- `answers::tell_decision` meets its contract: by what was told.
-- Assumes nothing.
use mathlib.Core.Path.{sym, ap, ◌∙◌}
use Rattle.wire.specs.Be.{put}
use Rattle.wire.proofs.BeLaws.{put-nil}
use Rattle.answers.specs.Answers.{decision_number, decision_words}
use Rattle.answers.proofs.tell_decision.Goals as goal

pub returns-in-Err : goal.returns-in-Err
returns-in-Err c =
    let a = c.args in
    let e = sym c.in-Err.is in
    (c.number.ensures ∙ ap decision_number e, sym (put-nil a.s.now 0) ∙ ap (λ t. put a.s.now 0 (decision_words t)) e)

pub returns-in-Ok : goal.returns-in-Ok
returns-in-Ok c =
    let a = c.args in
    let e = sym c.in-Ok.is in
    (ap decision_number e, c.put_decision.ensures ∙ ap (λ t. put a.s.now 0 (decision_words t)) e)
