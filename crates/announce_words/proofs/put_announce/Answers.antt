-- `announce_words::put_announce` meets its contract: the words are those of the fields, with the numbers that the callees give.
-- Assumes nothing.
use native.Mathlib.Omega.{arith}
use Rattle.announce_words.specs.Words.{announce_words}
use Rattle.announce_words.proofs.put_announce.Goals as goal

pub overflow_cast-values-8 : goal.overflow_cast-values-8
overflow_cast-values-8 c = omega (arith, c.struct_known-6-1.given)

pub overflow_cast-values-17 : goal.overflow_cast-values-17
overflow_cast-values-17 c = omega (arith, c.struct_known-13-1.given)

pub overflow_cast-values-18 : goal.overflow_cast-values-18
overflow_cast-values-18 c = omega (arith, c.struct_known-14-1.given)

pub put_words-requires : goal.put_words-requires
put_words-requires c = c.requires

pub returns : goal.returns
unfolding announce_words
returns c =
    rw (
      c.put_words.ensures,
      c.offset_bits.ensures,
      c.interval_bits.ensures,
      c.correction_bits.ensures,
      c.flags7_of.ensures,
      c.flags6_of.ensures,
    )
