-- `ageing::pack_masters` meets its contract. Assumes nothing.
use Rattle.std.proofs.Common.{◌≡◌, ◌≤◌}
use Rattle.ageing.specs.Age.{packing}
use Rattle.ageing.proofs.pack_masters.Given as goal

abbrev pub invariant-loop-i : goal.invariant-loop-i
invariant-loop-i l = (l.next ≤ l.i) × (record { words = l.port; next = l.next } ≡ packing l.i l.initial.port)
