-- `hex_line::digit` meets its contract, by tests computed over all bytes. Assumes nothing.
use mathlib.Core.Path.{◌∙◌}
use borrow.Author.Rules.{rules}
use Rattle.hex_line.proofs.HexLaws.{stepped-room, digit_min}
use Rattle.hex_line.proofs.digit.Goals as goal

pub overflow_sub-v-3 : goal.overflow_sub-v-3
overflow_sub-v-3 c = stepped-room _ c.ranges.b.fits

pub returns : goal.returns
returns c = (c.min.ensures ∙ digit_min _ c.ranges.b.fits, search rules)
