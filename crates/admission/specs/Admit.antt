-- A message taken into the store, word by word, and how many it puts out.
-- Assumes nothing.
use Rattle.std.specs.Prelude.{ℕ, ◌+◌, ◌%◌, cond, List, ◌∷◌, ltb, get_or, set}
use Rattle.wire.specs.Be.{put}
use Rattle.header.specs.declared.PortIdentity.{PortIdentity}
use Rattle.slot.specs.Blocks.{block}
use Rattle.slot.specs.Slot.{encode}
use Rattle.slot.specs.declared.ForeignAnnounceMessage.{ForeignAnnounceMessage}
use Rattle.history.specs.Rules.{messages_max}
use Rattle.history.specs.Port.{sender}
use Rattle.book.specs.Layout.{master_words, port_words, slot_at, master_at, port_at, reads}
use Rattle.store.specs.Search.{place}

-- the ninth message puts out the first
unfoldable pub puts_out : List ℕ → ℕ
puts_out w = cond (ltb (get_or w 3 0) messages_max) 0 1

-- the slot after the last one, which is the first one's where eight are held
unfoldable pub appended : List ℕ → ForeignAnnounceMessage → List ℕ
appended w m =
    cond (ltb (get_or w 3 0) messages_max)
    (set (put w (slot_at (get_or w 2 0) (get_or w 3 0)) (encode m)) 3 (get_or w 3 0 + 1))
    (set (put w (slot_at (get_or w 2 0) (get_or w 3 0)) (encode m)) 2 ((get_or w 2 0 + 1) % 8))

-- a master with its first message
unfoldable pub begun : List ℕ → PortIdentity → ForeignAnnounceMessage → List ℕ
begun w src m = put w 0 (src.clock_identity ∷ src.port_number ∷ 0 ∷ 1 ∷ encode m)

-- the words of the first master of the sender; those of the next one where there is none
abbrev pub master_for : List ℕ → ForeignAnnounceMessage → List ℕ
master_for p m = block p (master_at (place p (sender reads m))) master_words

unfoldable pub evicted_at : List ℕ → ForeignAnnounceMessage → ℕ
evicted_at p m = cond (ltb (place p (sender reads m)) (get_or p 1 0)) (puts_out (master_for p m)) 0

unfoldable pub registered : List ℕ → ForeignAnnounceMessage → List ℕ
registered p m =
    cond (ltb (place p (sender reads m)) (get_or p 1 0))
    (put p (master_at (place p (sender reads m))) (appended (master_for p m) m))
    (set (put p (master_at (place p (sender reads m))) (begun (master_for p m) (sender reads m) m)) 1 (get_or p 1 0 + 1))

-- in the store, for a port that counts from 0
unfoldable pub evicted_in : List ℕ → ℕ → ForeignAnnounceMessage → ℕ
evicted_in s q m = evicted_at (block s (port_at q) port_words) m

unfoldable pub registered_in : List ℕ → ℕ → ForeignAnnounceMessage → List ℕ
registered_in s q m = put s (port_at q) (registered (block s (port_at q) port_words) m)
