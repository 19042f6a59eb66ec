-- `foreign_master::age_checked` meets its contract. Assumes nothing.
use mathlib.Core.Path.{sym, ap, ◌∙◌}
use Rattle.std.specs.Prelude.{Ok}
use Rattle.std.proofs.lemmas.Result.{err_from_is_err_and}
use Rattle.refused.specs.Refusal.{number_in}
use Rattle.history.specs.Book.{age}
use Rattle.ageing.specs.Age.{aged_store}
use Rattle.book.proofs.Rules.{checked}
use Rattle.foreign_master.specs.Steps.{gone}
use Rattle.foreign_master.proofs.Steps.{refused-first, step-refused, step-taken}
use Rattle.foreign_master.proofs.age_checked.Goals as goal

pub returns-in_err-checked : goal.returns-in_err-checked
returns-in_err-checked c =
    let a = c.args in
    let p = err_from_is_err_and c.from_residual.result c.from_residual.ensures.1 in
    rw (p.1, p.2) (refused-first a.store.now (age a.step) (aged_store a.step a.store.now) _ (ap number_in (sym c.in_err-checked.was) ∙ c.requires))

pub returns-then-step-ge4611686018427387904 : goal.returns-then-step-ge4611686018427387904
returns-then-step-ge4611686018427387904 c =
    let a = c.args in
    step-refused a.store.now (sym c.requires ∙ ap number_in c.in_ok-checked.was) a.step c.if-step-ge4611686018427387904.true

pub age_ports-aged_out-requires : goal.age_ports-aged_out-requires
age_ports-aged_out-requires c =
    let s = checked c.args.store.now (sym c.requires ∙ ap number_in c.in_ok-checked.was) in
    (s.room, s.sound)

pub returns : goal.returns
returns c =
    let a = c.args in
    let w = c.age_ports-aged_out.ensures.value in
    let t = step-taken a.store.now (sym c.requires ∙ ap number_in c.in_ok-checked.was) a.step c.if-step-ge4611686018427387904.false in
    (ap (λ n. Ok (gone n)) w.0 ∙ t.0, w.1 ∙ t.1)
