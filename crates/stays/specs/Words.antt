-- A master's newest message on the words of the store: what the choice within a port reads of it.
-- Assumes nothing.
use Rattle.std.specs.Prelude.{ℕ, ◌+◌, ◌*◌, ◌/◌, ◌%◌, ◌^◌, ◌<◌, ◌≡◌, Bool, cond, List, [], ◌∷◌, eqb, get_or}
use Rattle.std.proofs.Common.{ap, ◌∙◌, arith, add-zero, mod-eq_of_lt, div-add-mod', eq-eqb, ne_eqb}
use Rattle.announce.specs.declared.AnnounceMessage.{AnnounceMessage}
use Rattle.announce.specs.Wire.{announce_of, announce_with}
use Rattle.order.specs.Order.{lex, is_less}
use Rattle.order.specs.Rows.{cmp_equal}
use Rattle.slot.specs.Blocks.{get_or-block}
use Rattle.slot.specs.Slot.{decode}
use Rattle.history.specs.Port.{steps}
use Rattle.book.specs.Layout.{slot_at, message_at, reads}
use Rattle.offers.specs.Offers.{newest_of}

-- priority 1, class, accuracy, variance and priority 2 as one number
abbrev pub high_of : AnnounceMessage → ℕ
high_of a =
    (((a.grandmaster_priority_1 * 256 + a.grandmaster_clock_quality.clock_class) * 256 + a.grandmaster_clock_quality.clock_accuracy) * 65536
    + a.grandmaster_clock_quality.offset_scaled_log_variance) * 256
    + a.grandmaster_priority_2

-- the grandmaster of a master's newest message
abbrev pub grandmaster_of : List ℕ → ℕ
grandmaster_of m = (newest_of m).message.grandmaster_identity

-- what decides between two grandmasters: the lower row is the better
abbrev pub far_row : List ℕ → List ℕ
far_row m = high_of (newest_of m).message ∷ grandmaster_of m ∷ []

-- what decides between messages of one, received by one port: the steps, the sender's clock, the age
abbrev pub near_row : List ℕ → List ℕ
near_row m = steps reads (newest_of m) ∷ get_or m 0 0 ∷ (newest_of m).age ∷ []

-- the newest message of master m stays against that of master n
unfoldable pub stays_at : List ℕ → List ℕ → Bool
stays_at m n = cond (eqb (grandmaster_of m) (grandmaster_of n)) (is_less (lex (near_row m) (near_row n))) (is_less (lex (far_row m) (far_row n)))

-- ---- the words

-- the grandmaster is word 0 of a slot
pub grandmaster-word : (m : List ℕ) (k : ℕ) → (message_at m k).message.grandmaster_identity ≡ get_or m (slot_at (get_or m 2 0) k) 0
unfolding message_at decode announce_of announce_with
grandmaster-word m k = get_or-block m (slot_at (get_or m 2 0) k) 8 0 (omega arith) ∙ ap (λ (i : ℕ). get_or m i 0) (add-zero (slot_at (get_or m 2 0) k))

-- the high 48 bits of a word are its five numbers
high-digits : (w : ℕ) → w < 2 ^ 64
    → (((w / 256 / 256 / 256 / 65536 / 256 / 256 % 256 * 256 + w / 256 / 256 / 256 / 65536 / 256 % 256) * 256 + w / 256 / 256 / 256 / 65536 % 256) * 65536 + w / 256 / 256 / 256 % 65536) * 256 + w / 256 / 256 % 256
    ≡ w / 256 / 256
high-digits w h =
    let top : w / 256 / 256 / 256 / 65536 / 256 / 256 < 256 = omega arith in
    rw (mod-eq_of_lt top, div-add-mod' (w / 256 / 256 / 256 / 65536 / 256) 256, div-add-mod' (w / 256 / 256 / 256 / 65536) 256, div-add-mod' (w / 256 / 256 / 256) 65536, div-add-mod' (w / 256 / 256) 256)

-- they are the high 48 bits of word 5 of a slot
pub high_word : (m : List ℕ) (k : ℕ) → get_or m (slot_at (get_or m 2 0) k + 5) 0 < 2 ^ 64
    → high_of (message_at m k).message ≡ get_or m (slot_at (get_or m 2 0) k + 5) 0 / 256 / 256
unfolding message_at decode announce_of announce_with
high_word m k h = rw (get_or-block m (slot_at (get_or m 2 0) k) 8 5 (omega arith)) (high-digits (get_or m (slot_at (get_or m 2 0) k + 5) 0) h)

-- ---- the choice by its cases

module _ (m n : List ℕ) where
  -- one grandmaster
  pub stays_same : grandmaster_of m ≡ grandmaster_of n → stays_at m n ≡ is_less (lex (near_row m) (near_row n))
  unfolding stays_at
  stays_same e = simp (eq-eqb _ _ e)

  -- two grandmasters
  pub stays-other : (grandmaster_of m ≡ grandmaster_of n → ⊥) → stays_at m n ≡ is_less (lex (far_row m) (far_row n))
  unfolding stays_at
  stays-other e = simp (ne_eqb _ _ e)

  -- as many steps: by what follows
  pub near-level : steps reads (newest_of m) ≡ steps reads (newest_of n)
      → is_less (lex (near_row m) (near_row n)) ≡ is_less (lex (get_or m 0 0 ∷ (newest_of m).age ∷ []) (get_or n 0 0 ∷ (newest_of n).age ∷ []))
  unfolding lex
  near-level e = simp (cmp_equal (steps reads (newest_of m)) (steps reads (newest_of n)) (omega arith) (omega arith))
