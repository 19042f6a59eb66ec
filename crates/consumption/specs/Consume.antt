-- Consumption, word by word: each master of a port that offers a message and has not won gives up its newest.
-- Assumes nothing.
use Rattle.std.specs.Prelude.{ℕ, zero, suc, ◌+◌, ◌-◌, Bool, not, ◌&&◌, cond, List, eqb, get_or, set}
use Rattle.book.specs.Layout.{master_at}
use Rattle.offers.specs.Offers.{offers_at}

-- one word one less
abbrev pub less_at : ℕ → List ℕ → List ℕ
less_at j s = set s j (get_or s j 0 - 1)

-- a master without its newest message: its ring holds one less
unfoldable pub consumed : List ℕ → List ℕ
consumed m = less_at 3 m

-- master i of a port offers a message and is not the winner
abbrev pub loses : ℕ → List ℕ → ℕ → Bool
loses winner p i = not (eqb winner i) && offers_at p i

-- then its newest message goes
unfoldable pub consumed_at : ℕ → ℕ → List ℕ → List ℕ
consumed_at winner i p = cond (loses winner p i) (less_at (master_at i + 3) p) p

-- so many of its messages go
abbrev pub gone_at : ℕ → List ℕ → ℕ → ℕ
gone_at winner p i = cond (loses winner p i) 1 0

-- the first n masters of a port
abbrev pub consumed_below : ℕ → ℕ → List ℕ → List ℕ
consumed_below winner zero p = p
consumed_below winner (suc n) p = consumed_at winner n (consumed_below winner n p)

-- how many of their messages go
abbrev pub gone_below : ℕ → ℕ → List ℕ → ℕ
gone_below winner zero p = 0
gone_below winner (suc n) p = gone_below winner n p + gone_at winner p n

-- a port after a decision that master `winner` has won, or nobody where there is no such master
unfoldable pub consumed_in : ℕ → List ℕ → List ℕ
consumed_in winner p = consumed_below winner (get_or p 1 0) p

-- how many of its messages go
unfoldable pub gone_in : ℕ → List ℕ → ℕ
gone_in winner p = gone_below winner (get_or p 1 0) p
