-- `wire::put_fields` meets its contract: the fields that are left lead, from any turn, to the same list.
-- Assumes nothing.
use Prim.Native.Nat.{◌+◌, ◌≤◌}
use mathlib.Core.Path.{◌≡◌}
use lib.ListN.{length, drop}
use Rattle.wire.specs.Layout.{total, put_all}
use Rattle.wire.proofs.put_fields.Given as goal

abbrev pub invariant-loop-i : goal.invariant-loop-i
invariant-loop-i l = (l.i ≤ length l.widths) × (length l.s ≡ length l.initial.s) × (l.p + total (drop l.i l.widths) ≤ length l.initial.s)
    × (put_all l.s l.p (drop l.i l.widths) (drop l.i l.values) ≡ put_all l.initial.s l.at l.widths l.values)
