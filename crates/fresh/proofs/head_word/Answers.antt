-- `fresh::head_word` meets its contract. Assumes nothing.
use native.Mathlib.Omega.{arith}
use borrow.Author.Tests.{ne_eqb}
use Rattle.fresh.specs.Fresh.{head_word}
use Rattle.fresh.proofs.head_word.Goals as goal

pub returns-in-0 : goal.returns-in-0
unfolding head_word
returns-in-0 c = simp c.in-0.is

pub returns-in-1 : goal.returns-in-1
unfolding head_word
returns-in-1 c = simp c.in-1.is

pub returns-in-2 : goal.returns-in-2
unfolding head_word
returns-in-2 c = simp c.in-2.is c.rule_word.ensures

pub returns-in-3 : goal.returns-in-3
unfolding head_word
returns-in-3 c = simp c.in-3.is

pub returns-in_default : goal.returns-in_default
unfolding head_word
returns-in_default c =
    simp (ne_eqb c.args.w 0 (λ e. omega arith), ne_eqb c.args.w 1 (λ e. omega arith), ne_eqb c.args.w 2 (λ e. omega arith), ne_eqb c.args.w 3 (λ e. omega arith)) c.word_or_zero.ensures
