-- `log_setup::setup_at` meets its contract. Assumes nothing.
use Rattle.log_setup.specs.Steps.{setup-is}
use Rattle.log_setup.proofs.setup_at.Goals as goal

pub returns : goal.returns
returns c = setup-is _ _ c.u16_at.ensures
