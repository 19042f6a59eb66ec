-- What the line `03` asks: a decision on the book that is set up.
-- Assumes nothing.
use Rattle.std.specs.Prelude.{ℕ, ◌/◌, ◌^◌, cond, ◌&&◌, List, eqb, length, get_or}
use Rattle.std.proofs.Math.Option.{Option, none, some}
use Rattle.stored.specs.Calls.{decide}
use Rattle.log_answer.specs.declared.Setup.{Setup}
use Rattle.log_answer.specs.Answer.{Asked}

-- `03`: a byte, bit k - 1 set if port k listens, bits above the count zero
abbrev pub decision_of : Setup → ℕ → Asked
decision_of setup listening =
    record { call = decide setup.priority_1 setup.quality setup.priority_2 listening; setup = setup }

unfoldable pub decision_asked : Setup → List ℕ → Option Asked
decision_asked setup line =
    cond (eqb (length line) 2 && eqb (get_or line 1 0 / 2 ^ setup.ports) 0) (some (decision_of setup (get_or line 1 0))) none
