-- `log_call::frame_line` meets its contract. Assumes nothing.
use mathlib.Core.Path.{refl, ap, ◌∙◌}
use native.Mathlib.Omega.{arith}
use Rattle.refused.specs.Refusal.{answer_of}
use Rattle.log_answer.specs.Steps.{shapeless_told}
use Rattle.log_call.specs.Steps.{frame_short, frame_told}
use Rattle.log_call.proofs.frame_line.Goals as goal

pub returns-then-line-lt2 : goal.returns-then-line-lt2
returns-then-line-lt2 c =
    let a = c.args in
    shapeless_told a.setup _ _ _ _ _ _ c.told.ensures _ (frame_short a.setup _ c.if-line-lt2.true) refl refl

pub returns : goal.returns
returns c =
    let b = c in
    let e = b.register_checked-answer.ensures in
    let w = b.from-port.ensures in
    let a = b.args in
    frame_told a.setup _ _ _ _ _ _ _ c.told-2.ensures _ (omega arith) w (c.number.ensures ∙ ap (λ x. (answer_of x).0) e.value) e.store_after
