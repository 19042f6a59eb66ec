-- `book::check` meets its contract. Assumes nothing.
use borrow.Author.Tests.{lt-ltb, le-ltb}
use Rattle.book.specs.Rules.{store_refusal}
use Rattle.book.proofs.check.Goals as goal

pub returns-then-store-lt-STORE_WORDS : goal.returns-then-store-lt-STORE_WORDS
unfolding store_refusal
returns-then-store-lt-STORE_WORDS c = simp (lt-ltb _ _ c.if-store-lt-STORE_WORDS.true)

pub returns-then-not-sound : goal.returns-then-not-sound
unfolding store_refusal
returns-then-not-sound c = simp (le-ltb _ _ c.if-store-lt-STORE_WORDS.false, ← c.sound.ensures, c.if-not-sound.true)

pub returns : goal.returns
unfolding store_refusal
returns c = simp (le-ltb _ _ c.if-store-lt-STORE_WORDS.false, ← c.sound.ensures, c.if-not-sound.false)
