-- `fresh::fresh_word` meets its contract. Assumes nothing.
use borrow.Author.Tests.{lt-ltb, le-ltb, eq-eqb, ne_eqb}
use Rattle.fresh.specs.Fresh.{fresh_word}
use Rattle.fresh.proofs.fresh_word.Goals as goal

pub returns-then-w-lt-HEAD_WORDS : goal.returns-then-w-lt-HEAD_WORDS
unfolding fresh_word
returns-then-w-lt-HEAD_WORDS c = simp (lt-ltb _ _ c.if-w-lt-HEAD_WORDS.true) c.head_word.ensures

pub returns-then-at-eq0 : goal.returns-then-at-eq0
unfolding fresh_word
returns-then-at-eq0 c = simp (le-ltb _ _ c.if-w-lt-HEAD_WORDS.false, eq-eqb _ _ c.if-at-eq0.true) c.word_or_zero.ensures

pub returns : goal.returns
unfolding fresh_word
returns c = simp (le-ltb _ _ c.if-w-lt-HEAD_WORDS.false, ne_eqb _ _ c.if-at-eq0.false)
