-- `ebest` meets its contract: the steps from nothing are the choice among all Erbests.
-- Assumes nothing.
use Rattle.states.proofs.Steps.{steps-ebest}
use Rattle.states.proofs.ebest.Goals as goal

pub loop-next-init : goal.loop-next-init
loop-next-init c = steps-ebest c.args.erbests
