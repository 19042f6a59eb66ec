-- `bmca::decide_checked` meets its contract. Assumes nothing.
use native.Mathlib.Omega.{arith}
use mathlib.Core.Path.{◌≡◌, sym, ap, ◌∙◌}
use lib.ListN.{get_or}
use Rattle.std.specs.Prelude.{Ok}
use Rattle.std.proofs.lemmas.Result.{err_from_is_err_and}
use Rattle.refused.specs.Refusal.{number_in}
use Rattle.compare.specs.declared.InternalDefaultDS.{InternalDefaultDS}
use Rattle.book.specs.Layout.{site_of, book_of}
use Rattle.book.specs.Rules.{store_refusal}
use Rattle.book.proofs.Rules.{checked}
use Rattle.bmca.specs.declared.Plan.{Plan}
use Rattle.bmca.specs.Decide.{consuming_of}
use Rattle.bmca.specs.Plan.{answers_in}
use Rattle.bmca.proofs.Laws.{refused, done}
use Rattle.bmca.proofs.decide_checked.Goals as goal

pub returns-in_err-checked : goal.returns-in_err-checked
returns-in_err-checked c =
    let a = c.args in
    let p = err_from_is_err_and c.from_residual.result c.from_residual.ensures.1 in
    let no = refused a.store.now a.priority_1 a.quality a.priority_2 a.listening c.in_err-checked.field-0.0 (ap number_in (sym (c.in_err-checked.was)) ∙ c.requires) in
    record { value = rw (p.1, p.2) no.0; store_after = no.1 }

pub bounds-store-1 : goal.bounds-store-1
bounds-store-1 c = omega (arith, (checked c.args.store.now (sym c.requires ∙ ap number_in (c.in_ok-checked.was))).room)

pub plan_of-plan-requires : goal.plan_of-plan-requires
plan_of-plan-requires c =
    let s = checked c.args.store.now (sym c.requires ∙ ap number_in (c.in_ok-checked.was)) in
    (s.room, s.sound)

pub answers_of-answers-requires : goal.answers_of-answers-requires
answers_of-answers-requires c =
    let s = checked c.args.store.now (sym c.requires ∙ ap number_in (c.in_ok-checked.was)) in
    let plan = c.plan_of-plan.ensures in
    (s.room, s.sound, (ap (λ (p : Plan). p.best) plan, ap (λ (p : Plan). p.winners) plan))

pub consume-consumed-requires : goal.consume-consumed-requires
consume-consumed-requires c =
    let s = checked c.args.store.now (sym c.requires ∙ ap number_in (c.in_ok-checked.was)) in
    (s.room, s.sound, ap (λ (p : Plan). p.winners) c.plan_of-plan.ensures)

pub returns : goal.returns
unfolding book_of site_of
returns c =
    let a = c.args in
    let s = a.store.now in
    let checks : store_refusal s ≡ 0 = sym c.requires ∙ ap number_in (c.in_ok-checked.was) in
    let own : InternalDefaultDS =
    record { clock_identity = get_or s 1 0; clock_quality = a.quality; priority_1 = a.priority_1; priority_2 = a.priority_2 } in
    let plan = c.plan_of-plan.ensures in
    let answers = c.answers_of-answers.ensures ∙ ap (answers_in s own) plan in
    let call = c.consume-consumed.ensures in
    let yes = done s a.priority_1 a.quality a.priority_2 a.listening checks in
    record { value = (λ i. Ok (record { ports = (plan i).ports; answers = answers i; tallies = (c.consuming.ensures ∙ ap consuming_of call.1) i })) ∙ yes.0; store_after = call.0 ∙ yes.1 }
