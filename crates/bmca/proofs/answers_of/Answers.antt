-- `bmca::answers_of` meets its contract. The loop's invariant: the answers so far lie over blank ones.
-- Assumes nothing.
use native.Mathlib.Omega.{arith}
use Prim.Native.Nat.{ℕ}
use mathlib.Core.List.{◌++◌}
use mathlib.Core.Path.{◌≡◌, ap, ◌∙◌}
use lib.ListN.{length, drop, get_or, length-set}
use Rattle.book.specs.Below.{tab}
use Rattle.book.proofs.Rules.{held}
use Rattle.bmca.specs.Decide.{blanks}
use Rattle.bmca.proofs.Over.{over-tab}
use Rattle.bmca.specs.Plan.{answer_in, answers_in}
use Rattle.bmca.proofs.answers_of.Goals as goal

pub loop-i-init : goal.loop-i-init
loop-i-init c = ((held c.args.store.now c.requires.1).ports, ap length c.blank_answers-answers.ensures, c.blank_answers-answers.ensures)

pub answer_at-requires : goal.answer_at-requires
answer_at-requires c = let pre = c.requires in (pre.0, pre.1, omega arith, pre.2)

pub loop-i-preserved : goal.loop-i-preserved
loop-i-preserved c =
    let l = c.loop-i in
    let a = c.args in (
      l.invariant.0,
      simp length-set l.invariant.1,
      over-tab (answer_in a.store.now a.own a.plan) blanks l.answers l.i c.answer_at.result l.invariant.2 (omega arith) c.answer_at.ensures,
    )

pub returns : goal.returns
unfolding answers_in
returns c =
    let l = c.loop-i in
    let a = c.args in
    let s = a.store.now in
    let e : l.i ≡ get_or s 0 0 = omega arith in
    l.invariant.2 ∙ ap (λ (n : ℕ). tab n (answer_in s a.own a.plan) ++ drop n blanks) e
