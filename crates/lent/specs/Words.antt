-- Words against limits, and a call that is lent room for its answer.
-- Assumes nothing.
use Rattle.std.specs.Prelude.{ℕ, Bool, true, false, cond, ◌&&◌, List, [], ◌∷◌, leb, ltb, length}

-- each word is at most its limit
unfoldable pub all_within : List ℕ → List ℕ → Bool
all_within ws [] = true
all_within [] (l ∷ ls) = false
all_within (w ∷ ws) (l ∷ ls) = leb w l && all_within ws ls

-- by the words that are lent for an answer of n words: what holds where they are too few, and where there is room
unfoldable pub lent : {A : Type 0} → ℕ → List ℕ → A → A → A
lent n a short enough = cond (ltb (length a) n) short enough

-- paper 01's number of words against limits: 1 where they are fewer, then 15 where one is above its limit
abbrev pub refusal : List ℕ → List ℕ → ℕ
refusal ws ls = lent (length ls) ws 1 (cond (all_within ws ls) 0 15)
