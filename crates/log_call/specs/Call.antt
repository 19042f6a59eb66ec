-- What the lines `01` and `02` ask: a call on the book that is set up.
-- Assumes nothing.
use Rattle.std.specs.Prelude.{ℕ, cond, List, eqb, leb, length, drop, get_or}
use Rattle.std.proofs.Math.Option.{Option, none, some}
use Rattle.wire.specs.Be.{be_at}
use Rattle.stored.specs.Calls.{register_frame, step_age}
use Rattle.log_answer.specs.declared.Setup.{Setup}
use Rattle.log_answer.specs.Answer.{Asked}

-- `01`: port, frame; after the port any bytes are a frame, none included
unfoldable pub frame_asked : Setup → List ℕ → Option Asked
frame_asked setup line = cond (leb 2 (length line)) (some (record { call = register_frame (get_or line 1 0) (drop 2 line); setup = setup })) none

-- `02`: 8-byte step
unfoldable pub step_asked : Setup → List ℕ → Option Asked
step_asked setup line = cond (eqb (length line) 9) (some (record { call = step_age (be_at line 1 8); setup = setup })) none
