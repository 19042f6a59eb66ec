-- Swapping the two sides of a comparison mirrors the verdict.
-- Assumes nothing.
use Rattle.verdict.specs.declared.DatasetOrdering.{DatasetOrdering}
use Rattle.verdict.specs.declared.DatasetOrdering.TheVariants.{Better, BetterByTopology, Error1, Error2, WorseByTopology, Worse}

-- the verdict seen from the other side
abbrev pub mirror : DatasetOrdering → DatasetOrdering
mirror Better = Worse
mirror BetterByTopology = WorseByTopology
mirror Error1 = Error1
mirror Error2 = Error2
mirror WorseByTopology = BetterByTopology
mirror Worse = Better
