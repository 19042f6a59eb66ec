-- `bmca::ebest_of` meets its contract. The loop's invariant: the one held is Ebest among the ports so far.
-- Assumes nothing.
use native.Mathlib.Omega.{arith}
use Prim.Native.Nat.{ℕ, ◌<◌}
use mathlib.Core.List.{List}
use mathlib.Core.Path.{◌≡◌, refl, sym, ap, ap₂, ◌∙◌}
use native.Mathlib.Numerals.{add-one}
use lib.ListN.{get_or}
use Rattle.choice.specs.Choice.{choose}
use Rattle.choice.specs.Candidate.{winner}
use Rattle.states.specs.Ports.{ebest_of}
use Rattle.recommend.specs.Number.{shown, keep_next}
use Rattle.recommend.proofs.Laws.{keep-shown}
use Rattle.book.specs.Below.{tab}
use Rattle.book.proofs.Rules.{held}
use Rattle.bmca.specs.Decide.{erbest_at}
use Rattle.bmca.specs.Plan.{ebest_in}
use Rattle.bmca.proofs.Planned.{winner_in, ebest-next}
use Rattle.bmca.proofs.ebest_of.Goals as goal

pub loop-q-init : goal.loop-q-init
unfolding ebest_of winner choose
loop-q-init c = ((held c.args.store.now c.requires.1).ports, refl)

pub candidate_at-next-requires : goal.candidate_at-next-requires
candidate_at-next-requires c =
    let pre = c.requires in
    let s = c.args.store.now in
    let q = c.loop-q.q in
    let l : q < get_or s 0 0 = omega arith in
    record { store_words_in_bounds = (pre.0, pre.1, l); winner_value = ap (λ (ws : List ℕ). get_or ws q 0) pre.2 ∙ winner_in s q 0 l }

pub loop-q-preserved : goal.loop-q-preserved
loop-q-preserved c =
    let l = c.loop-q in
    let s = c.args.store.now in
    let g = ebest_of (tab l.q (erbest_at s)) in (
      l.invariant.0,
      rw add-one
          (c.keep-held.ensures
          ∙ ap₂ keep_next l.invariant.1 c.candidate_at-next.ensures
          ∙ keep-shown g (erbest_at s l.q)
          ∙ ap shown (sym (ebest-next l.q (erbest_at s)))),
    )

pub returns : goal.returns
unfolding ebest_in
returns c =
    let l = c.loop-q in
    let s = c.args.store.now in
    let e : l.q ≡ get_or s 0 0 = omega arith in
    l.invariant.1 ∙ ap (λ (n : ℕ). shown (ebest_of (tab n (erbest_at s)))) e
