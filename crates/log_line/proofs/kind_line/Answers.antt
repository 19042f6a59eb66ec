-- `log_line::kind_line` meets its contract, kind by kind. Assumes nothing.
use mathlib.Core.Path.{refl}
use Rattle.log_answer.specs.Steps.{answers_by, shapeless_told}
use Rattle.log_asked.proofs.Steps.{kind_1, kind_2, kind_3, kind_other}
use Rattle.log_line.proofs.kind_line.Goals as goal

pub returns-then-kind-eq1 : goal.returns-then-kind-eq1
returns-then-kind-eq1 c =
    let a = c.args in
    answers_by _ _ (kind_1 a.kind a.setup a.line.now c.if-kind-eq1.true) _ _ _ _ _ _ c.frame_line.ensures

pub returns-then-kind-eq2 : goal.returns-then-kind-eq2
returns-then-kind-eq2 c =
    let a = c.args in
    answers_by _ _ (kind_2 a.kind a.setup a.line.now c.if-kind-eq2.true) _ _ _ _ _ _ c.step_line.ensures

pub returns-then-kind-eq3 : goal.returns-then-kind-eq3
returns-then-kind-eq3 c =
    let a = c.args in
    answers_by _ _ (kind_3 a.kind a.setup a.line.now c.if-kind-eq3.true) _ _ _ _ _ _ c.decision_line.ensures

pub returns : goal.returns
returns c =
    let a = c.args in
    shapeless_told a.setup _ _ _ _ _ _ c.told.ensures _
    (kind_other a.kind a.setup a.line.now c.if-kind-eq1.false c.if-kind-eq2.false c.if-kind-eq3.false) refl refl
