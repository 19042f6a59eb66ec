-- What a line `00` asks: a fresh start, and what is set up once it is done.
-- Assumes nothing.
use Rattle.std.specs.Prelude.{ℕ, ◌+◌, ◌*◌, true, cond, List, [], eqb, length, get_or}
use Rattle.std.proofs.Math.Option.{Option, none, some}
use Rattle.wire.specs.Be.{be_at}
use Rattle.book.specs.Below.{tab}
use Rattle.stored.specs.Calls.{StoreCall, fresh_start}
use Rattle.log_answer.specs.declared.Setup.{Setup}
use Rattle.log_answer.specs.Answer.{Asked}

-- `00`: port count, identity, priority 1, class, accuracy, variance, priority 2, one 8-byte interval a port
unfoldable pub setup_at : List ℕ → Setup
setup_at line =
    record {
      ports = get_or line 1 0;
      priority_1 = get_or line 10 0;
      quality = record { clock_class = get_or line 11 0; clock_accuracy = get_or line 12 0; offset_scaled_log_variance = be_at line 13 2 };
      priority_2 = get_or line 15 0;
    }

unfoldable pub intervals_at : List ℕ → ℕ → List ℕ
intervals_at line count = tab count (λ i. be_at line (16 + i * 8) 8)

-- a fresh start, any master accepted
abbrev pub start_at : List ℕ → StoreCall
start_at line = fresh_start (be_at line 2 8) true [] (intervals_at line (get_or line 1 0))

-- it is 16 bytes plus 8 for each port it counts
unfoldable pub start_asked : List ℕ → Option Asked
start_asked line = cond (eqb (length line) (16 + get_or line 1 0 * 8)) (some (record { call = start_at line; setup = setup_at line })) none
