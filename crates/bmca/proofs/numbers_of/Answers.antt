-- `bmca::numbers_of` meets its contract. The loop's invariant: the numbers so far lie over eight of 0, and the bits of the ports to come are left.
-- Assumes nothing.
use native.Mathlib.Omega.{arith}
use Prim.Native.Nat.{ℕ, ◌%◌, ◌<◌}
use mathlib.Core.List.{List, ◌++◌}
use mathlib.Core.Path.{◌≡◌, refl, ap, ◌∙◌}
use lib.Dec.{eqb}
use lib.ListN.{drop, get_or, length-set}
use Rattle.states.proofs.Steps.{halved}
use Rattle.recommend.specs.Number.{number_by}
use Rattle.book.specs.Below.{tab}
use Rattle.book.proofs.Rules.{held}
use Rattle.bmca.proofs.Over.{over-tab}
use Rattle.bmca.specs.Plan.{zeros, number_at, numbers_of}
use Rattle.bmca.proofs.Planned.{winner_in, number-at}
use Rattle.bmca.proofs.numbers_of.Goals as goal

pub loop-q-init : goal.loop-q-init
loop-q-init c = ((held c.args.store.now c.requires.store_words_in_bounds.1).ports, refl, omega arith, refl)

pub candidate_at-port-requires : goal.candidate_at-port-requires
candidate_at-port-requires c =
    let pre = c.requires.store_words_in_bounds in
    let s = c.args.store.now in
    let q = c.loop-q.q in
    let l : q < get_or s 0 0 = omega arith in
    record { store_words_in_bounds = (pre.0, pre.1, l); winner_value = ap (λ (ws : List ℕ). get_or ws q 0) pre.2 ∙ winner_in s q 0 l }

pub loop-q-preserved : goal.loop-q-preserved
loop-q-preserved c =
    let l = c.loop-q in
    let a = c.args in
    let s = a.store.now in
    let number = c.number.ensures ∙ (λ i. number_by a.own (c.requires.global_value i) (c.candidate_at-port.ensures i) (eqb (l.invariant.2 i % 2) 1)) ∙ number-at s a.own a.listening l.q in (
      l.invariant.0,
      simp length-set l.invariant.1,
      halved a.listening l.bits l.q l.invariant.2,
      over-tab (number_at s a.own a.listening) zeros l.numbers l.q c.number.result l.invariant.3 (omega arith) number,
    )

pub returns : goal.returns
unfolding numbers_of
returns c =
    let l = c.loop-q in
    let a = c.args in
    let s = a.store.now in
    let e : l.q ≡ get_or s 0 0 = omega arith in
    l.invariant.3 ∙ ap (λ (n : ℕ). tab n (number_at s a.own a.listening) ++ drop n zeros) e
