-- The refusals of a registration, by the words of a port.
-- Assumes nothing.
use Rattle.std.specs.Prelude.{ℕ, ◌+◌, ◌-◌, Bool, true, cond, not, List, ltb, leb, eqb, get_or}
use Rattle.header.specs.declared.PortIdentity.{PortIdentity}
use Rattle.same.specs.Same.{same_port}
use Rattle.slot.specs.Blocks.{block}
use Rattle.slot.specs.declared.ForeignAnnounceMessage.{ForeignAnnounceMessage}
use Rattle.history.specs.Rules.{masters_max, in_step, steps_limit}
use Rattle.history.specs.Port.{sender, sequence, steps}
use Rattle.book.specs.Layout.{master_words, port_words, head_words, master_at, port_at, identity, message_at, reads}
use Rattle.store.specs.Search.{place, accepts_head}

-- the last message of a master
abbrev pub last_of : List ℕ → ForeignAnnounceMessage
last_of m = message_at m (get_or m 3 0 - 1)

-- a sequence may follow the last one of the master at a place; any may at the place behind the last master
unfoldable pub order_at : List ℕ → ℕ → ℕ → Bool
order_at p i number = cond (leb (get_or p 1 0) i) true (in_step (sequence reads (last_of (block p (master_at i) master_words))) number)

-- a new master on a port that is full is refused 12
unfoldable pub room_refusal : ℕ → ℕ → ℕ
room_refusal i count = cond (ltb i count) 0 (cond (ltb count masters_max) 0 12)

-- 7, 8, 9, 10, 11, 12
unfoldable pub refusal_at : List ℕ → List ℕ → ℕ → PortIdentity → ℕ → ℕ → ℕ
refusal_at h p k src number removed =
    cond (same_port src (identity (get_or h 1 0) k)) 7
    (cond (not (accepts_head h src.clock_identity)) 8
    (cond (eqb src.clock_identity (get_or h 1 0)) 9
    (cond (not (order_at p (place p src) number)) 10
    (cond (leb steps_limit removed) 11 (room_refusal (place p src) (get_or p 1 0))))))

-- in the store, for a port that counts from 0
unfoldable pub refusal_in : List ℕ → ℕ → ForeignAnnounceMessage → ℕ
refusal_in s q m =
    refusal_at (block s 0 head_words) (block s (port_at q) port_words) (q + 1) (sender reads m) (sequence reads m) (steps reads m)
