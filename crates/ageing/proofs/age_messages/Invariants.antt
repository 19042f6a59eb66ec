-- `ageing::age_messages` meets its contract. Assumes nothing.
use Rattle.std.proofs.Common.{◌≡◌}
use Rattle.ageing.specs.Age.{older_to}
use Rattle.ageing.proofs.age_messages.Given as goal

abbrev pub invariant-loop-k : goal.invariant-loop-k
invariant-loop-k l = l.master ≡ older_to l.step l.k l.initial.master
