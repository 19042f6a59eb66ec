-- When the words of a store are a sound book, level by level, and what soundness gives a caller.
-- Assumes nothing.
use Rattle.std.specs.Prelude.{ℕ, ◌-◌, ◌^◌, ◌≤◌, ◌<◌, Bool, true, not, ◌&&◌, ◌||◌, cond, List, ◌≡◌, ltb, leb, eqb, length, get_or}
use Rattle.slot.specs.Blocks.{block}
use Rattle.history.specs.Rules.{ports_max, masters_max, messages_max, listed_max, age_limit}
use Rattle.history.specs.Sound.{holdable, follows}
use Rattle.store.specs.Below.{all}
use Rattle.store.specs.Layout.{master_words, port_words, head_words, store_words, master_at, port_at, identity_of, message_at, reads}
use Rattle.store.specs.Search.{place, accepts_head}

-- message k of a master: it may be held, and after the first it follows the one before
unfoldable pub rule_at : ℕ → List ℕ → ℕ → Bool
rule_at limit m k = holdable reads (identity_of m) limit (message_at m k) && (eqb k 0 || follows reads (message_at m (k - 1)) (message_at m k))

unfoldable pub master_sound : List ℕ → ℕ → List ℕ → Bool
master_sound h limit m =
    leb 1 (get_or m 3 0)
    && leb (get_or m 3 0) messages_max
    && not (eqb (get_or m 0 0) (get_or h 1 0))
    && accepts_head h (get_or m 0 0)
    && all (get_or m 3 0) (rule_at limit m)

-- master i of a port is the first of its identity, and sound
unfoldable pub placed : List ℕ → List ℕ → ℕ → Bool
placed h p i =
    eqb (place p (identity_of (block p (master_at i) master_words))) i && master_sound h (age_limit (get_or p 0 0)) (block p (master_at i) master_words)

unfoldable pub port_sound : List ℕ → List ℕ → Bool
port_sound h p = leb 1 (get_or p 0 0) && ltb (get_or p 0 0) (2 ^ 60) && leb (get_or p 1 0) masters_max && all (get_or p 1 0) (placed h p)

abbrev pub port_test : List ℕ → ℕ → Bool
port_test s q = port_sound (block s 0 head_words) (block s (port_at q) port_words)

unfoldable pub sound_words : List ℕ → Bool
sound_words s =
    leb 1 (get_or s 0 0)
    && leb (get_or s 0 0) ports_max
    && leb (get_or s 3 0) listed_max
    && all (get_or s 0 0) (port_test s)

-- what every call over a store checks first: too short 1, then unsound 16
unfoldable pub store_refusal : List ℕ → ℕ
store_refusal s = cond (ltb (length s) store_words) 1 (cond (sound_words s) 0 16)

-- a store that is long enough for a book, and holds a sound one
abbrev pub SoundStore : List ℕ → Type 0
SoundStore s = (store_words ≤ length s) × (sound_words s ≡ true)

-- what passes is long enough, and its book is sound
pub record Passed (s : List ℕ) : Type 0 where
  pub room : store_words ≤ length s
  pub sound : sound_words s ≡ true

-- ---- what soundness gives a caller

pub record Held (s : List ℕ) : Type 0 where
  pub ports : get_or s 0 0 ≤ ports_max
  pub listed : get_or s 3 0 ≤ listed_max
  pub port : (q : ℕ) → q < get_or s 0 0 → port_test s q ≡ true

pub record HeldPort (h p : List ℕ) : Type 0 where
  pub interval : get_or p 0 0 < 2 ^ 60
  pub masters : get_or p 1 0 ≤ masters_max
  pub master : (i : ℕ) → i < get_or p 1 0 → placed h p i ≡ true

pub record HeldMaster (limit : ℕ) (m : List ℕ) : Type 0 where
  pub some : 1 ≤ get_or m 3 0
  pub few : get_or m 3 0 ≤ messages_max
  pub message : (k : ℕ) → k < get_or m 3 0 → rule_at limit m k ≡ true
