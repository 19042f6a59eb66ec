-- `log_setup::start_line` meets its contract. Assumes nothing.
use Prim.Native.Nat.{ℕ, ◌+◌, ◌*◌}
use mathlib.Core.Path.{refl, sym, ap, ◌∙◌}
use native.Mathlib.Omega.{arith}
use Rattle.refused.specs.Refusal.{number_in}
use Rattle.refused.proofs.Laws.{number-positive}
use Rattle.log_answer.specs.Steps.{shapeless_told}
use Rattle.log_setup.specs.Steps.{start-short, start-other, start-refused, start-done}
use Rattle.log_setup.proofs.start_line.Goals as goal
use Rattle.log_setup.proofs.start_line.Goals.{then-line-lt16-via-then-line-lt16, then-line-lt16-via-else-line-lt16+then-line-count_at}

pub returns-then-line-lt16 : goal.returns-then-line-lt16
returns-then-line-lt16 c =
    let a = c.args in
    shapeless_told a.setup _ _ _ _ _ _ c.told.ensures _
    (elim c.then-line-lt16.branch [
      | then-line-lt16-via-then-line-lt16 w ↦ start-short _ w.if-line-lt16.true
      | then-line-lt16-via-else-line-lt16+then-line-count_at w ↦ start-other _ (λ e. w.if-line-count_at.true (e ∙ ap (λ (n : ℕ). 16 + n * 8) (sym w.count_at.ensures.0)))
    ])
    refl refl

pub returns-in-Ok : goal.returns-in-Ok
returns-in-Ok c =
    let t = c.told-in-Ok.ensures in
    let a = c.args in
    start-done a.setup _ _ _ _ _ _ (t.0 ∙ c.setup_at.ensures, t.1, t.2)
    (c.if-line-count_at.false ∙ ap (λ (n : ℕ). 16 + n * 8) c.count_at.ensures.0) (sym c.start.ensures.0 ∙ ap number_in c.in-Ok.is) c.start.ensures.1

pub returns-in-Err : goal.returns-in-Err
returns-in-Err c =
    let n = c.number.ensures in
    let a = c.args in
    start-refused a.setup _ _ _ _ _ _ _ c.told-in-Err.ensures
    (c.if-line-count_at.false ∙ ap (λ (n : ℕ). 16 + n * 8) c.count_at.ensures.0)
    (n ∙ sym (ap number_in c.in-Err.is) ∙ c.start.ensures.0) (λ z. omega (arith, number-positive c.in-Err.e, n, z)) c.start.ensures.1
