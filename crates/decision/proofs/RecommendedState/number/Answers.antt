-- `number` meets its contract: each case its number.
-- Assumes nothing.
use mathlib.Core.Path.{sym, ap}
use Rattle.decision.specs.Answer.{number_of}
use Rattle.decision.proofs.RecommendedState.number.Goals as goal

pub returns-in-M3 : goal.returns-in-M3
returns-in-M3 c = sym (ap number_of c.in-M3.is)

pub returns-in-P1 : goal.returns-in-P1
returns-in-P1 c = sym (ap number_of c.in-P1.is)

pub returns-in-P2 : goal.returns-in-P2
returns-in-P2 c = sym (ap number_of c.in-P2.is)

pub returns-in-S1 : goal.returns-in-S1
returns-in-S1 c = sym (ap number_of c.in-S1.is)
