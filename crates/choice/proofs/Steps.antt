-- A choice made step by step is the choice of the whole list.
-- Assumes nothing.
use Rattle.std.specs.Prelude.{◌≡◌, refl, List, [], ◌∷◌, Some, None}
use Rattle.choice.specs.declared.Candidate.{Candidate}
use Rattle.choice.specs.Choice.{keep, from, choose}
use Rattle.choice.specs.Candidate.{itself, stays, stays_by, winner, keep_all}

steps-from : (held : Candidate) (xs : List Candidate) → keep_all (Some held) xs ≡ Some (from (stays_by itself) held xs)
unfolding from
steps-from held [] = refl
steps-from held (x ∷ xs) = steps-from (keep stays held x) xs

pub steps-winner : (xs : List Candidate) → keep_all None xs ≡ winner itself xs
unfolding winner choose
steps-winner [] = refl
steps-winner (x ∷ xs) = steps-from x xs
