-- `same::same_header` meets its contract.
-- Assumes nothing.
use mathlib.Core.Path.{◌∙◌}
use Rattle.same.specs.Same.{header}
use Rattle.same.proofs.Derived.{agree, header_derived}
use Rattle.same.proofs.same_header.Goals as goal

pub returns : goal.returns
returns c = c.eq.ensures ∙ agree header_derived header c.args.a c.args.b
