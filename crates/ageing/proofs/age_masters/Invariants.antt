-- `ageing::age_masters` meets its contract. Assumes nothing.
use Rattle.std.proofs.Common.{◌≡◌, ◌*◌, ◌≤◌}
use Rattle.ageing.specs.Age.{gone_to, aged_to}
use Rattle.ageing.proofs.age_masters.Given as goal

abbrev pub invariant-loop-i : goal.invariant-loop-i
invariant-loop-i l = (l.out ≤ 8 * l.i) × (l.out ≡ gone_to l.step l.limit l.i l.initial.port) × (l.port ≡ aged_to l.step l.limit l.i l.initial.port)
