-- Ageing, word by word: every message older, the stale front of each ring let go and counted, empty masters squeezed out.
-- Assumes nothing.
use Rattle.std.specs.Prelude.{ℕ, zero, suc, ◌+◌, ◌-◌, ◌%◌, ◌^◌, ◌<◌, ◌≤◌, Bool, cond, List, nat_le, slice_index, slice_set}
use Rattle.wire.specs.Be.{put}
use Rattle.slot.specs.Blocks.{block}
use Rattle.history.specs.Rules.{messages_max, age_limit}
use Rattle.history.specs.Port.{young}
use Rattle.book.specs.Below.{first}
use Rattle.book.specs.Each.{each_to}
use Rattle.book.specs.Layout.{head_words, port_words, port_at, master_words, slot_at, master_at, message_at, reads}

-- ---- a master

-- message k older by `step`
unfoldable pub older_at : ℕ → ℕ → List ℕ → List ℕ
older_at step k w = slice_set w (slot_at (slice_index w 2) k + 2) ((slice_index w (slot_at (slice_index w 2) k + 2) + step) % 2 ^ 64)

-- the first n messages
abbrev pub older_to : ℕ → ℕ → List ℕ → List ℕ
older_to step zero w = w
older_to step (suc n) w = older_at step n (older_to step n w)

-- how many messages stand before the first that is young enough
unfoldable pub stale : ℕ → List ℕ → ℕ
stale limit w = first (slice_index w 3) (λ k. young reads limit (message_at w k))

-- how many messages of a master go
unfoldable pub gone : ℕ → ℕ → List ℕ → ℕ
gone step limit w = stale limit (older_to step (slice_index w 3) w)

-- the front of a ring let go
abbrev pub without : ℕ → List ℕ → List ℕ
without n w = slice_set (slice_set w 2 ((slice_index w 2 + n) % 8)) 3 (slice_index w 3 - n)

-- a master aged
unfoldable pub aged_master : ℕ → ℕ → List ℕ → List ℕ
aged_master step limit w = without (gone step limit w) (older_to step (slice_index w 3) w)

-- ---- a port

-- no ring of a port holds more than it has room for
abbrev pub RingsFit : List ℕ → Type 0
RingsFit p = (i : ℕ) → i < slice_index p 1 → slice_index (block p (master_at i) master_words) 3 ≤ messages_max

-- the first n masters aged
abbrev pub aged_to : ℕ → ℕ → ℕ → List ℕ → List ℕ
aged_to step limit zero p = p
aged_to step limit (suc n) p =
    put (aged_to step limit n p) (master_at n) (aged_master step limit (block (aged_to step limit n p) (master_at n) master_words))

-- how many messages of them go
abbrev pub gone_to : ℕ → ℕ → ℕ → List ℕ → ℕ
gone_to step limit zero p = 0
gone_to step limit (suc n) p = gone_to step limit n p + gone step limit (block (aged_to step limit n p) (master_at n) master_words)

-- the words of a port, and the next place, while its masters are moved to the front
pub record Packing : Type 0 where
  pub words : List ℕ
  pub next : ℕ

-- master i of a port has a message
unfoldable pub occupied : List ℕ → ℕ → Bool
occupied p i = nat_le 1 (slice_index (block p (master_at i) master_words) 3)

-- master i put at the next place
abbrev pub moved : ℕ → Packing → Packing
moved i s = record { words = put s.words (master_at s.next) (block s.words (master_at i) master_words); next = s.next + 1 }

-- master i to the next place, unless it is empty
unfoldable pub pack_step : ℕ → Packing → Packing
pack_step i s = cond (occupied s.words i) (moved i s) s

-- the first n masters
abbrev pub packing : ℕ → List ℕ → Packing
packing zero p = record { words = p; next = 0 }
packing (suc n) p = pack_step n (packing n p)

-- a port without its empty masters
unfoldable pub packed : List ℕ → List ℕ
packed p = slice_set (packing (slice_index p 1) p).words 1 (packing (slice_index p 1) p).next

-- a port aged
unfoldable pub aged_port : ℕ → List ℕ → List ℕ
aged_port step p = packed (aged_to step (age_limit (slice_index p 0)) (slice_index p 1) p)

-- how many of its messages go
unfoldable pub gone_port : ℕ → List ℕ → ℕ
gone_port step p = gone_to step (age_limit (slice_index p 0)) (slice_index p 1) p

-- ---- a store

-- the first n ports aged
abbrev pub aged_ports_to : ℕ → ℕ → List ℕ → List ℕ
aged_ports_to step n s = each_to head_words port_words (aged_port step) n s

-- how many of their messages go
abbrev pub gone_ports_to : ℕ → ℕ → List ℕ → ℕ
gone_ports_to step zero s = 0
gone_ports_to step (suc n) s = gone_ports_to step n s + gone_port step (block (aged_ports_to step n s) (port_at n) port_words)

-- every port aged
unfoldable pub aged_store : ℕ → List ℕ → List ℕ
aged_store step s = aged_ports_to step (slice_index s 0) s

-- how many messages go in all
unfoldable pub aged_out : ℕ → List ℕ → ℕ
aged_out step s = gone_ports_to step (slice_index s 0) s
