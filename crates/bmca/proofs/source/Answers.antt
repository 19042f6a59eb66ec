-- `bmca::source` meets its contract. Assumes nothing.
use mathlib.Core.Path.{sym, ◌∙◌}
use native.Mathlib.Numerals.{add-one}
use Rattle.bmca.proofs.source.Goals as goal

pub returns-then-of_port : goal.returns-then-of_port
returns-then-of_port c = rw (sym c.of_port.ensures ∙ c.if-of_port.true) (add-one c.args.q)

pub returns-else-of_port : goal.returns-else-of_port
returns-else-of_port c = rw (sym c.of_port.ensures ∙ c.if-of_port.false)
