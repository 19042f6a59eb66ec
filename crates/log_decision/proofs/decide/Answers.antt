-- `log_decision::decide` meets its contract. Assumes nothing.
use Prim.Native.Nat.{ℕ, ◌≤◌}
use mathlib.Core.Path.{refl, sym, ◌∙◌, ap}
use native.Mathlib.Omega.{arith}
use Rattle.std.specs.Prelude.{Ok, Err, ◌∷◌, []}
use Rattle.log_answer.specs.Answer.{text_of}
use Rattle.std.proofs.lemmas.List.Edits.{sets}
use Rattle.log_decision.specs.Steps.{few-ports, decision-refused, decision-done}
use Rattle.log_decision.proofs.decide.Goals as goal

pub put_states-requires : goal.put_states-requires
put_states-requires c =
    let a = c.args in
    (c.requires.0, few-ports a.store.now a.setup.priority_1 a.setup.quality a.setup.priority_2 a.listening c.in-Ok.decision c.in-Ok.ensures.value)

pub overflow_mul-result : goal.overflow_mul-result
overflow_mul-result c =
    let a = c.args in
    omega (arith, few-ports a.store.now a.setup.priority_1 a.setup.quality a.setup.priority_2 a.listening c.in-Ok.decision c.in-Ok.ensures.value)

pub overflow_add-result : goal.overflow_add-result
overflow_add-result c =
    let a = c.args in
    omega (arith, few-ports a.store.now a.setup.priority_1 a.setup.quality a.setup.priority_2 a.listening c.in-Ok.decision c.in-Ok.ensures.value)

pub returns-in-Ok : goal.returns-in-Ok
returns-in-Ok c =
    let a = c.args in
    let p = c.put_states.ensures in
    let few = few-ports a.store.now a.setup.priority_1 a.setup.quality a.setup.priority_2 a.listening c.in-Ok.decision c.in-Ok.ensures.value in
    decision-done a.setup a.listening a.store.now a.out.now _ _ _ c.decide_checked-decided.ensures.store_after c.in-Ok.decision c.in-Ok.ensures.value refl refl (omega (arith, few, p.1)) p.0

pub returns-in-Err : goal.returns-in-Err
returns-in-Err c =
    let a = c.args in
    let t = c.told.ensures in
    decision-refused a.setup a.listening a.store.now a.out.now _ _ _ c.decide_checked-decided.ensures.store_after c.in-Err.e c.in-Err.ensures.value
    (t.0, t.1, t.2 ∙ ap (λ (n : ℕ). sets a.out.now 0 (text_of (n ∷ []))) c.number.ensures)
