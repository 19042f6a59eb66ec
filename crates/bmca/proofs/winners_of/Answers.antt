-- `bmca::winners_of` meets its contract. The loop's invariant: the winners so far lie over eight of 0.
-- Assumes nothing.
use native.Mathlib.Omega.{arith}
use Prim.Native.Nat.{ℕ}
use mathlib.Core.List.{◌++◌}
use mathlib.Core.Path.{◌≡◌, refl, ap, ◌∙◌}
use lib.ListN.{drop, get_or, length-set}
use Rattle.book.specs.Below.{tab}
use Rattle.book.proofs.Rules.{held}
use Rattle.bmca.proofs.Over.{over-tab}
use Rattle.bmca.specs.Plan.{zeros, winner_at, winners_of}
use Rattle.bmca.proofs.winners_of.Goals as goal

pub loop-q-init : goal.loop-q-init
loop-q-init c = ((held c.args.store.now c.requires.1).ports, refl, refl)

pub loop-q-preserved : goal.loop-q-preserved
loop-q-preserved c =
    let l = c.loop-q in
    let s = c.args.store.now in (
      l.invariant.0,
      simp length-set l.invariant.1,
      over-tab (winner_at s) zeros l.winners l.q c.winner_at.result l.invariant.2 (omega arith) c.winner_at.ensures,
    )

pub returns : goal.returns
unfolding winners_of
returns c =
    let l = c.loop-q in
    let s = c.args.store.now in
    let e : l.q ≡ get_or s 0 0 = omega arith in
    l.invariant.2 ∙ ap (λ (n : ℕ). tab n (winner_at s) ++ drop n zeros) e

pub winner_at-requires : goal.winner_at-requires
winner_at-requires c = (c.requires.0, c.requires.1, omega arith)
