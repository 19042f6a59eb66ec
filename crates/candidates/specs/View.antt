-- The candidates of a book on the words of its store.
-- Assumes nothing.
use Rattle.std.specs.Prelude.{ℕ, ◌+◌, List, map}
use Rattle.choice.specs.declared.BestAnnounceMessage.{BestAnnounceMessage}
use Rattle.slot.specs.Blocks.{block}
use Rattle.history.specs.Port.{receiver}
use Rattle.book.specs.Layout.{port_words, port_at, site_of}
use Rattle.offers.specs.Offers.{best_at, offering}

-- ---- the book

-- the words of port q, which counts from 0, and the messages that its masters offer
abbrev pub port_in : List ℕ → ℕ → List ℕ
port_in s q = block s (port_at q) port_words

abbrev pub offers_in : List ℕ → ℕ → List BestAnnounceMessage
offers_in s q = map (best_at (receiver (site_of s) (q + 1)) (port_in s q)) (offering (port_in s q))
