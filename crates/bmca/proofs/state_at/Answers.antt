-- `bmca::state_at` meets its contract. Assumes nothing.
use native.Mathlib.Omega.{arith}
use Prim.Native.Nat.{ℕ}
use mathlib.Core.Path.{sym, ap, ◌∙◌}
use lib.ListN.{get_or}
use Rattle.recommend.specs.Number.{carrying_best, state_by}
use Rattle.recommend.proofs.Laws.{state_carries}
use Rattle.book.proofs.Rules.{held}
use Rattle.bmca.specs.Decide.{erbest_at}
use Rattle.bmca.specs.Plan.{ebest_in, erbest_from, source_of}
use Rattle.bmca.proofs.Planned.{source-there, carried_from}
use Rattle.bmca.proofs.state_at.Goals as goal

pub returns-in-0 : goal.returns-in-0
unfolding state_by
returns-in-0 c =
    let a = c.args in
    let s = a.store.now in
    sym (ap (λ (n : ℕ). state_by n a.own (ebest_in s) (erbest_at s a.q)) c.in-0.is)

pub returns-in-1 : goal.returns-in-1
unfolding state_by
returns-in-1 c =
    let a = c.args in
    let s = a.store.now in
    sym (ap (λ (n : ℕ). state_by n a.own (ebest_in s) (erbest_at s a.q)) c.in-1.is)

pub returns-in-2 : goal.returns-in-2
unfolding state_by
returns-in-2 c =
    let a = c.args in
    let s = a.store.now in
    sym (ap (λ (n : ℕ). state_by n a.own (ebest_in s) (erbest_at s a.q)) c.in-2.is)

pub source-requires : goal.source-requires
source-requires c = omega (arith, (held c.args.store.now c.requires.1).ports)

pub carried_at-requires : goal.carried_at-requires
carried_at-requires c =
    let a = c.args in
    let s = a.store.now in
    let pre = c.requires in
    let n = get_or a.plan.numbers a.q 0 in
    let port = c.source.ensures ∙ ap (λ (b : ℕ). source_of n b a.q) pre.3.0 in
    (pre.0, pre.1, pre.3.1, rw port (source-there s n a.q pre.2))

pub returns-in_default : goal.returns-in_default
returns-in_default c =
    let a = c.args in
    let s = a.store.now in
    let pre = c.requires in
    let n = get_or a.plan.numbers a.q 0 in
    let port = c.source.ensures ∙ ap (λ (b : ℕ). source_of n b a.q) pre.3.0 in
    c.carried_at.ensures
    ∙ ap (λ (k : ℕ). carrying_best n (erbest_from s k)) port
    ∙ carried_from s n a.q
    ∙ sym (state_carries n a.own (ebest_in s) (erbest_at s a.q) (λ e. omega arith) (λ e. omega arith) (λ e. omega arith))

pub bounds-plan-q : goal.bounds-plan-q
bounds-plan-q c = omega (arith, (held c.args.store.now c.requires.1).ports)
