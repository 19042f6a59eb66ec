-- `log_call::step_line` meets its contract. Assumes nothing.
use mathlib.Core.Path.{refl, ap, ◌∙◌}
use Rattle.refused.specs.Refusal.{answer_of}
use Rattle.log_answer.specs.Steps.{shapeless_told}
use Rattle.log_call.specs.Steps.{step_other, step-told}
use Rattle.log_call.proofs.step_line.Goals as goal

pub returns-then-line-ne9 : goal.returns-then-line-ne9
returns-then-line-ne9 c =
    let a = c.args in
    shapeless_told a.setup _ _ _ _ _ _ c.told.ensures _ (step_other a.setup _ c.if-line-ne9.true) refl refl

pub returns : goal.returns
returns c =
    let b = c in
    let e = b.age_checked-answer.ensures in
    let a = b.args in
    step-told a.setup _ _ _ _ _ _ _ c.told-2.ensures _ b.if-line-ne9.false b.u64_at.ensures (c.number.ensures ∙ ap (λ x. (answer_of x).0) e.0) e.1
