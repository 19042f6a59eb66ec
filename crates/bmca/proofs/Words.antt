-- The words of a store while its ports are decided, one after the other.
-- Assumes nothing.
use Rattle.std.specs.Prelude.{ℕ, ◌≤◌, ◌<◌, ◌≡◌, true, List, length, get_or}
use Rattle.std.proofs.Common.{arith}
use Rattle.slot.specs.Blocks.{block, length-block}
use Rattle.book.specs.Each.{Treated, treated}
use Rattle.book.specs.Layout.{port_words, head_words, store_words, port_at}
use Rattle.book.specs.Rules.{sound_words}
use Rattle.book.proofs.Rules.{held, master-held}
use Rattle.offers.specs.Offers.{master_in}
use Rattle.consumption.proofs.View.{length-consumed_in}
use Rattle.bmca.specs.Decide.{decided_port, decided_to, decided_store}

-- what holds of t after the first n ports of s have been decided
abbrev pub DecidedTo : List ℕ → ℕ → List ℕ → Type 0
DecidedTo s n t = Treated head_words port_words decided_port (get_or s 0 0) s n t

-- what soundness says of a port's masters
pub some-held : (s : List ℕ) → sound_words s ≡ true → (q : ℕ) → q < get_or s 0 0 → (i : ℕ) → i < get_or (block s (port_at q) port_words) 1 0
    → 1 ≤ get_or (master_in (block s (port_at q) port_words) i) 3 0
some-held s sound q h i l = (master-held s sound q h i l).some

module _ (s : List ℕ) (room : store_words ≤ length s) (sound : sound_words s ≡ true) where
  -- a port keeps its length
  keeps : (q : ℕ) → q < get_or s 0 0 → length (decided_port (block s (port_at q) port_words)) ≡ port_words
  keeps q h = length-consumed_in _ (block s (port_at q) port_words) (length-block s (port_at q) port_words (omega (arith, (held s sound).ports)))

  -- after any number of ports
  pub decided-ports : (n : ℕ) → n ≤ get_or s 0 0 → DecidedTo s n (decided_to n s)
  decided-ports = treated head_words port_words decided_port (get_or s 0 0) s (omega (arith, (held s sound).ports)) keeps

  -- the store keeps its length
  pub decided-length : length (decided_store s) ≡ length s
  unfolding decided_store
  decided-length = (decided-ports (get_or s 0 0) (omega arith)).size
