-- `ageing::age_ports` meets its contract. Assumes nothing.
use Rattle.std.proofs.Common.{◌≡◌, ◌*◌, ◌≤◌}
use Rattle.history.specs.Rules.{ports_max}
use Rattle.ageing.specs.Age.{aged_ports_to, gone_ports_to}
use Rattle.ageing.proofs.age_ports.Given as goal

abbrev pub invariant-loop-q : goal.invariant-loop-q
invariant-loop-q l = (l.count ≤ ports_max)
    × (l.all ≤ 8 * 12 * l.q)
    × (l.all ≡ gone_ports_to l.step l.q l.initial.store)
    × (l.store ≡ aged_ports_to l.step l.q l.initial.store)
