-- What the masters of a port offer, on the words of the store.
-- Assumes nothing.
use Rattle.std.specs.Prelude.{ℕ, zero, suc, ◌-◌, Bool, cond, List, [], ◌∷◌, leb, get_or}
use Rattle.header.specs.declared.PortIdentity.{PortIdentity}
use Rattle.choice.specs.declared.BestAnnounceMessage.{BestAnnounceMessage}
use Rattle.slot.specs.Blocks.{block}
use Rattle.slot.specs.declared.ForeignAnnounceMessage.{ForeignAnnounceMessage}
use Rattle.history.specs.Port.{Offer, best_of}
use Rattle.book.specs.Layout.{master_words, master_at, message_at, reads}

-- a master with two messages or more offers its newest
abbrev pub qualified : ℕ → Bool
qualified messages = leb 2 messages

-- the words of master i of a port
abbrev pub master_in : List ℕ → ℕ → List ℕ
master_in p i = block p (master_at i) master_words

-- master i of a port offers a message
abbrev pub offers_at : List ℕ → ℕ → Bool
offers_at p i = qualified (get_or (master_in p i) 3 0)

-- the newest message of a master
abbrev pub newest_of : List ℕ → ForeignAnnounceMessage
newest_of m = message_at m (get_or m 3 0 - 1)

-- the newest message of master i of a port, as its receiver offers it; and the same with its place
abbrev pub best_at : PortIdentity → List ℕ → ℕ → BestAnnounceMessage
best_at r p i = best_of reads r (newest_of (master_in p i))

abbrev pub offer_at : PortIdentity → List ℕ → ℕ → Offer
offer_at r p i = record { place = i; best = best_at r p i }

-- the places below n at which a test holds, the last first
unfoldable pub down_from : ℕ → (ℕ → Bool) → List ℕ
down_from zero test = []
down_from (suc n) test = cond (test n) (n ∷ down_from n test) (down_from n test)

-- the places of the masters of a port that offer a message, the last first
abbrev pub offering : List ℕ → List ℕ
offering p = down_from (get_or p 1 0) (offers_at p)
