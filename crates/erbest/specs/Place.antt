-- The choice on places: a place below the count is a master, the count itself is none.
-- Assumes nothing.
use Rattle.std.specs.Prelude.{ℕ, ◌<◌, ◌≡◌, Bool, cond, List, [], ◌∷◌, ltb, get_or, Option, Some, None}
use Rattle.std.proofs.Math.Bool.{true}
use Rattle.header.specs.declared.PortIdentity.{PortIdentity}
use Rattle.choice.specs.declared.BestAnnounceMessage.{BestAnnounceMessage}
use Rattle.offers.specs.Offers.{master_in, offers_at, best_at, offering}
use Rattle.stays.specs.Words.{stays_at}

-- what stands at a place below n; n is none
abbrev pub found : {A : Type 0} → (ℕ → A) → ℕ → ℕ → Option A
found f n i = cond (ltb i n) (Some (f i)) None

-- the newest message of the master at a place, as its receiver offers it
abbrev pub best_in : PortIdentity → List ℕ → ℕ → Option BestAnnounceMessage
best_in r p w = found (best_at r p) (get_or p 1 0) w

-- one step, and the choice left to right: the one held stays only if it is above the next
abbrev pub keep_place : (ℕ → ℕ → Bool) → ℕ → ℕ → ℕ → ℕ
keep_place above n held i = cond (ltb held n) (cond (above held i) held i) i

unfoldable pub walk : (ℕ → ℕ → Bool) → ℕ → ℕ → List ℕ → ℕ
walk above n held [] = held
walk above n held (i ∷ is) = walk above n (keep_place above n held i) is

-- master i of a port stays against master j
abbrev pub stays_in : List ℕ → ℕ → ℕ → Bool
stays_in p i j = stays_at (master_in p i) (master_in p j)

-- one master's turn
unfoldable pub keep_offered : List ℕ → ℕ → ℕ → ℕ
keep_offered p held i = cond (offers_at p i) (keep_place (stays_in p) (get_or p 1 0) held i) held

-- a place is none, or that of a master which offers
abbrev pub Offered : List ℕ → ℕ → Type 0
Offered p held = held < get_or p 1 0 → offers_at p held ≡ true

-- the place of a port's winner, or the count of its masters: the masters that offer, from the last to the first
unfoldable pub winner_place : List ℕ → ℕ
winner_place p = walk (stays_in p) (get_or p 1 0) (get_or p 1 0) (offering p)
