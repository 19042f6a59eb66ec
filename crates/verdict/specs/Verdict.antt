-- A verdict as an order, and whether topology alone decided it.
-- Assumes nothing.
use Rattle.std.specs.Prelude.{Bool, true, false}
use Rattle.std.specs.declared.cmp.Ordering.{Ordering}
use Rattle.std.specs.declared.cmp.Ordering.TheVariants.{Less, Equal, Greater}
use Rattle.order.specs.Order.{is_greater}
use Rattle.verdict.specs.declared.DatasetOrdering.{DatasetOrdering}
use Rattle.verdict.specs.declared.DatasetOrdering.TheVariants.{Better, BetterByTopology, Error1, Error2, WorseByTopology, Worse}

-- a verdict as an order: the greater is the better, and the two errors are ties
abbrev pub as_ordering : DatasetOrdering → Ordering
as_ordering Better = Greater
as_ordering BetterByTopology = Greater
as_ordering Error1 = Equal
as_ordering Error2 = Equal
as_ordering WorseByTopology = Less
as_ordering Worse = Less

-- ranks above: Better or BetterByTopology
abbrev pub ranks_above : DatasetOrdering → Bool
ranks_above v = is_greater (as_ordering v)

abbrev pub is_by_topology : DatasetOrdering → Bool
is_by_topology Better = false
is_by_topology BetterByTopology = true
is_by_topology Error1 = false
is_by_topology Error2 = false
is_by_topology WorseByTopology = false
is_by_topology Worse = false
