-- A choice left to right by any test, over one list and over lists of lists.
-- Assumes nothing.
use Rattle.std.specs.Prelude.{Bool, cond, List, [], ◌∷◌, ◌++◌, Option, Some, None}

-- the one held stays only if it is above the next
module _ {A : Type 0} (above : A → A → Bool) where
  abbrev pub keep : A → A → A
  keep held next = cond (above held next) held next

  unfoldable pub from : A → List A → A
  from held [] = held
  from held (x ∷ xs) = from (keep held x) xs

  unfoldable pub choose : List A → Option A
  choose [] = None
  choose (x ∷ xs) = Some (from x xs)

-- the lists one after the other
abbrev pub joined : {A : Type 0} → List (List A) → List A
joined [] = []
joined (xs ∷ xss) = xs ++ joined xss

-- those that are there
abbrev pub present : {A : Type 0} → List (Option A) → List A
present [] = []
present (None ∷ os) = present os
present (Some x ∷ os) = x ∷ present os

-- what holds of each element
abbrev pub All : {A : Type 0} (P : A → Type 0) → List A → Type 0
All P [] = Unit
All P (x ∷ xs) = P x × All P xs

-- what holds of the one that is there
abbrev pub AllOf : {A : Type 0} (P : A → Type 0) → Option A → Type 0
AllOf P None = Unit
AllOf P (Some x) = P x
