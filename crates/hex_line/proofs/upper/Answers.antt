-- `hex_line::upper` meets its contract, by its test. Assumes nothing.
use mathlib.Core.Path.{refl}
use borrow.Author.Tests.{lt-ltb, le-ltb}
use Rattle.hex_line.specs.Hex.{upper_of}
use Rattle.hex_line.proofs.upper.Goals as goal

pub returns-then-d-lt10 : goal.returns-then-d-lt10
unfolding upper_of
returns-then-d-lt10 c = rw (lt-ltb _ 10 c.if-d-lt10.true) refl

pub returns-else-d-lt10 : goal.returns-else-d-lt10
unfolding upper_of
returns-else-d-lt10 c = rw (le-ltb _ 10 c.if-d-lt10.false) refl
