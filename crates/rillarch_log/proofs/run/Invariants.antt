-- `rillarch_log::run` is safe and ends. The lengths stay, what waits is within the output, and the store is
-- sound once something is set up. Assumes nothing.
use Rattle.std.proofs.Common.{◌≡◌, ◌≤◌, length}
use Rattle.log_answer.specs.Answer.{Known}
use Rattle.rillarch_log.proofs.run.Given as goal

abbrev pub invariant-loop : goal.invariant-loop
invariant-loop l = (length l.store ≡ length l.initial.store)
    × (length l.block ≡ length l.initial.block)
    × (length l.line ≡ length l.initial.line)
    × (length l.out ≡ length l.initial.out)
    × (l.used ≤ length l.initial.out)
    × Known 0 l.setup l.store
