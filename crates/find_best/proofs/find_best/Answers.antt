-- `find_best::find_best` meets its contract: the steps from nothing are the choice of the whole list.
-- Assumes nothing.
use Rattle.choice.proofs.Steps.{steps-winner}
use Rattle.find_best.proofs.find_best.Goals as goal

pub loop-c-init : goal.loop-c-init
loop-c-init c = steps-winner c.args.cands.now
