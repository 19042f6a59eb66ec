-- `foreign_master::register_at` meets its contract. Assumes nothing.
use mathlib.Core.Path.{sym, ap, ◌∙◌}
use Rattle.std.specs.Prelude.{Ok}
use Rattle.std.proofs.lemmas.Result.{err_from_is_err_and}
use Rattle.admission.proofs.StoreView.{room-there}
use Rattle.foreign_master.specs.Calls.{held_of}
use Rattle.foreign_master.specs.Steps.{put_out}
use Rattle.foreign_master.proofs.Steps.{taking-turned, taking-done}
use Rattle.foreign_master.proofs.register_at.Goals as goal

pub returns-in_err-refusal : goal.returns-in_err-refusal
returns-in_err-refusal c =
    let a = c.args in
    let p = err_from_is_err_and c.from_residual.result c.from_residual.ensures.1 in
    rw (p.1, p.2) (taking-turned a.store.now a.q a.announce _ c.in_err-refusal.ensures)

pub register_in-evicted-requires-clause-m_bound : goal.register_in-evicted-requires-clause-m_bound
register_in-evicted-requires-clause-m_bound c =
    let a = c.args in
    let b = c.requires.store_words_in_bounds in
    (room-there a.store.now b.0.0 b.0.1 a.q b.1 (held_of a.announce) (sym c.in_ok-refusal.ensures), c.requires.narrow)

pub returns : goal.returns
returns c =
    let a = c.args in
    let w = c.register_in-evicted.ensures in
    let t = taking-done a.store.now a.q a.announce (sym c.in_ok-refusal.ensures) in
    (ap (λ n. Ok (put_out n)) w.0 ∙ t.0, w.1 ∙ t.1)
