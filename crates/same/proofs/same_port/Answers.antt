-- `same::same_port` meets its contract.
-- Assumes nothing.
use Rattle.same.specs.Same.{same_port}
use Rattle.same.proofs.same_port.Goals as goal

pub returns : goal.returns
unfolding same_port
returns c = c.eq.ensures
