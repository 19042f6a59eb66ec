-- `log_decision::decision_line` meets its contract. Assumes nothing.
use mathlib.Core.Path.{refl, sym, ◌∙◌}
use Rattle.log_answer.specs.Steps.{answers_by, shapeless_told}
use Rattle.log_decision.specs.Steps.{decision-other, decision-above, decision-right}
use Rattle.log_decision.proofs.decision_line.Goals as goal
use Rattle.log_decision.proofs.decision_line.Goals.{then-line-ne2-via-then-line-ne2, then-line-ne2-via-else-line-ne2+then-above-ne0}

pub returns-then-line-ne2 : goal.returns-then-line-ne2
returns-then-line-ne2 c =
    let a = c.args in
    shapeless_told a.setup _ _ _ _ _ _ c.told.ensures _
    (elim c.then-line-ne2.branch [
      | then-line-ne2-via-then-line-ne2 w ↦ decision-other a.setup _ w.if-line-ne2.true
      | then-line-ne2-via-else-line-ne2+then-above-ne0 w ↦ decision-above a.setup _ w.if-line-ne2.false (λ e. w.if-above-ne0.true (w.above.ensures ∙ e))
    ])
    refl refl

pub returns : goal.returns
returns c =
    let a = c.args in
    answers_by _ _ (decision-right a.setup a.line.now c.if-line-ne2.false (sym c.above.ensures ∙ c.if-above-ne0.false)) _ _ _ _ _ _ c.decide.ensures
