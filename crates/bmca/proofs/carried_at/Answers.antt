-- `bmca::carried_at` meets its contract. Assumes nothing.
use native.Mathlib.Omega.{arith}
use Prim.Native.Nat.{ℕ, ◌-◌, ◌<◌}
use mathlib.Core.List.{List}
use mathlib.Core.Path.{sym, ap, ◌∙◌}
use lib.ListN.{get_or}
use Rattle.recommend.specs.Number.{carrying_best}
use Rattle.book.proofs.Rules.{held}
use Rattle.bmca.proofs.Planned.{winner_in, from-port}
use Rattle.bmca.proofs.carried_at.Goals as goal

pub erbest_at-requires : goal.erbest_at-requires
erbest_at-requires c =
    let a = c.args in
    let pre = c.requires in
    let l : a.port - 1 < get_or a.store.now 0 0 = omega arith in
    record { store_words_in_bounds = (pre.0, pre.1, l); winner_value = ap (λ (ws : List ℕ). get_or ws (a.port - 1) 0) pre.2 ∙ winner_in a.store.now (a.port - 1) 0 l }

pub returns-in-None : goal.returns-in-None
returns-in-None c =
    let a = c.args in
    ap (carrying_best a.number) (c.in-None.ensures ∙ sym (from-port a.store.now a.port c.if-port-eq0.false))

pub returns-in-Some : goal.returns-in-Some
returns-in-Some c =
    let a = c.args in
    c.carrying.ensures ∙ ap (carrying_best a.number) (c.in-Some.ensures ∙ sym (from-port a.store.now a.port c.if-port-eq0.false))

pub offset_bounds-winners-q : goal.offset_bounds-winners-q
offset_bounds-winners-q c = omega (arith, (held c.args.store.now c.requires.1).ports)

pub bounds-winners-q : goal.bounds-winners-q
bounds-winners-q c = omega (arith, (held c.args.store.now c.requires.1).ports)
