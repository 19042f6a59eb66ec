-- `rillarch_log::answer_block` is safe and ends: each line that is found goes on in the piece. Assumes nothing.
use mathlib.Core.Path.{◌≡◌}
use Prim.Native.Nat.{◌-◌, ◌≤◌}
use lib.ListN.{length}
use Rattle.log_answer.specs.Answer.{Known}
use Rattle.rillarch_log.proofs.answer_block.Given as goal

abbrev pub invariant-loop-from : goal.invariant-loop-from
invariant-loop-from l = (length l.store ≡ length l.initial.store) × (length l.line ≡ length l.initial.line) × (length l.out ≡ length l.initial.out) × (l.used ≤ length l.initial.out) × Known 0 l.setup l.store

abbrev pub decreases-loop-from : goal.decreases-loop-from
decreases-loop-from l = length l.piece - l.at
