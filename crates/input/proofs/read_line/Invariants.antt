-- `input::read_line` meets its contract: what the block holds is within it. Assumes nothing.
use Rattle.std.proofs.Common.{◌≤◌, length}
use Rattle.input.proofs.read_line.Given as goal

abbrev pub invariant-loop : goal.invariant-loop
invariant-loop l = l.size ≤ length l.block
