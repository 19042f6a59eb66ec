-- Where everything stands in the store, and the book that a store holds.
-- Assumes nothing.
use Rattle.std.specs.Prelude.{ℕ, ◌+◌, ◌*◌, ◌/◌, ◌%◌, ◌≤◌, ◌<◌, ◌≡◌, refl, List, eqb, get_or, length}
use Rattle.std.proofs.Common.{arith, ap, ◌∙◌}
use Rattle.header.specs.declared.PortIdentity.{PortIdentity}
use Rattle.slot.specs.Blocks.{block, get_or-block}
use Rattle.slot.specs.Slot.{decode, aged}
use Rattle.slot.specs.Slot as slot
use Rattle.slot.specs.declared.ForeignAnnounceMessage.{ForeignAnnounceMessage}
use Rattle.history.specs.Port.{Reads, Master, Port, Site, sequence, steps}
use Rattle.history.specs.Rules.{listed_max, masters_max}
use Rattle.history.specs.Book.{Book}
use Rattle.history.specs.Sound.{Lawful}
use Rattle.store.specs.Below.{tab, tab-ext}

-- ---- the layout: there is room for 8 ports, 12 masters a port and 8 messages a master

-- a master: clock, port number, first slot, count of messages, eight slots of eight words
abbrev pub master_words : ℕ
master_words = 4 + 8 * 8

-- a port: interval, count of masters, last receipt, a spare word, masters
abbrev pub port_words : ℕ
port_words = 4 + 12 * master_words

-- the head: count of ports, own clock, 0 where any master is accepted, length of the list, the list
abbrev pub head_words : ℕ
head_words = 4 + 16

abbrev pub store_words : ℕ
store_words = head_words + 8 * port_words

abbrev pub master_at : ℕ → ℕ
master_at i = 4 + i * master_words

abbrev pub port_at : ℕ → ℕ
port_at q = head_words + q * port_words

-- the slot of message k of a ring that starts at `start`
abbrev pub slot_at : ℕ → ℕ → ℕ
slot_at start k = 4 + (start + k) % 8 * 8

-- a head with as many words as it has, whose list has room
abbrev pub WholeHead : List ℕ → Type 0
WholeHead h = (length h ≡ head_words) × (get_or h 3 0 ≤ listed_max)

-- a port with as many words as it has, and no more masters than it may hold
abbrev pub WholePort : List ℕ → Type 0
WholePort p = (length p ≡ port_words) × (get_or p 1 0 ≤ masters_max)

-- ---- the book of a store: `book_of` reads the words, whatever they are

abbrev pub identity : ℕ → ℕ → PortIdentity
identity clock number = record { clock_identity = clock; port_number = number }

abbrev pub identity_of : List ℕ → PortIdentity
identity_of m = identity (get_or m 0 0) (get_or m 1 0 % 65536)

-- message k of a master, oldest first: its sender is its master
unfoldable pub message_at : List ℕ → ℕ → ForeignAnnounceMessage
message_at m k = decode (identity_of m) (block m (slot_at (get_or m 2 0) k) 8)

unfoldable pub master_of : List ℕ → Master ForeignAnnounceMessage
master_of m = record { source = identity_of m; messages = tab (get_or m 3 0) (message_at m) }

unfoldable pub port_of : List ℕ → Port ForeignAnnounceMessage
port_of p = record { interval = get_or p 0 0; masters = tab (get_or p 1 0) (λ i. master_of (block p (master_at i) master_words)) }

unfoldable pub site_of : List ℕ → Site
site_of s = record { own = get_or s 1 0; any = eqb (get_or s 2 0) 0; listed = tab (get_or s 3 0) (λ i. get_or s (4 + i) 0) }

unfoldable pub book_of : List ℕ → Book ForeignAnnounceMessage
book_of s = record { site = site_of s; ports = tab (get_or s 0 0) (λ q. port_of (block s (port_at q) port_words)) }

-- what the rules read of a held message
abbrev pub reads : Reads ForeignAnnounceMessage
reads = record { message = λ m. m.message; age = λ m. m.age; aged = aged }

pub lawful : Lawful reads
unfolding aged
lawful = record { age = λ m n. refl; message = λ m n. refl }

-- a store whose head stays has the same site
pub site-same : (s t : List ℕ) → get_or s 3 0 ≤ listed_max → ((j : ℕ) → j < head_words → get_or t j 0 ≡ get_or s j 0) → site_of t ≡ site_of s
unfolding site_of
site-same s t few word =
    rw (word 1 (omega arith), word 2 (omega arith), word 3 (omega arith), tab-ext (get_or s 3 0) (λ i. get_or t (4 + i) 0) (λ i. get_or s (4 + i) 0) (λ i l. word (4 + i) (omega arith)))

-- ---- the fields that the rules of a book read, by their words

pub age-word : (m : List ℕ) (k : ℕ) → (message_at m k).age ≡ get_or m (slot_at (get_or m 2 0) k + 2) 0
unfolding message_at
age-word m k = slot.decode-age (identity_of m) (block m (slot_at (get_or m 2 0) k) 8) ∙ get_or-block m (slot_at (get_or m 2 0) k) 8 2 (omega arith)

counts-word : (m : List ℕ) (k : ℕ) → get_or (block m (slot_at (get_or m 2 0) k) 8) 4 0 ≡ get_or m (slot_at (get_or m 2 0) k + 4) 0
counts-word m k = get_or-block m (slot_at (get_or m 2 0) k) 8 4 (omega arith)

pub steps-word : (m : List ℕ) (k : ℕ) → steps reads (message_at m k) ≡ get_or m (slot_at (get_or m 2 0) k + 4) 0 / 65536 % 65536
unfolding message_at
steps-word m k =
    slot.decode-steps (identity_of m) (block m (slot_at (get_or m 2 0) k) 8) ∙ ap (λ (w : ℕ). w / 65536 % 65536) (counts-word m k)

pub sequence-word : (m : List ℕ) (k : ℕ) → sequence reads (message_at m k) ≡ get_or m (slot_at (get_or m 2 0) k + 4) 0 / 65536 / 65536 % 65536
unfolding message_at
sequence-word m k =
    slot.decode-sequence (identity_of m) (block m (slot_at (get_or m 2 0) k) 8) ∙ ap (λ (w : ℕ). w / 65536 / 65536 % 65536) (counts-word m k)
