-- `store::sequence_at` meets its contract. Assumes nothing.
use native.Mathlib.Omega.{arith}
use Rattle.store.specs.Layout.{sequence-word}
use Rattle.store.proofs.sequence_at.Goals as goal

pub returns : goal.returns
returns c = (rw (c.slot_at-at.ensures.0, sequence-word), omega arith)
