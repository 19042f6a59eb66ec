-- `answers::tell_candidate` meets its contract: by what was told.
-- Assumes nothing.
use mathlib.Core.Path.{sym, ap, ◌∙◌}
use Rattle.wire.specs.Be.{put}
use Rattle.wire.proofs.BeLaws.{put-nil}
use Rattle.answers.specs.Answers.{candidate_number, candidate_told}
use Rattle.answers.proofs.tell_candidate.Goals as goal

pub returns-in-Err : goal.returns-in-Err
returns-in-Err c =
    let a = c.args in
    let e = sym c.in-Err.is in
    (c.number.ensures ∙ ap candidate_number e, sym (put-nil a.s.now 0) ∙ ap (λ t. put a.s.now 0 (candidate_told t)) e)

pub returns-in-Ok : goal.returns-in-Ok
returns-in-Ok c =
    let a = c.args in
    let e = sym c.in-Ok.is in
    let m = c.tell_best.ensures in
    (m.0 ∙ ap candidate_number e, m.1 ∙ ap (λ t. put a.s.now 0 (candidate_told t)) e)
