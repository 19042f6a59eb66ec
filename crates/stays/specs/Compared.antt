-- The comparison on words is the crate's comparison of the candidates that they hold.
-- Assumes nothing.
use Rattle.std.specs.Prelude.{ℕ, ◌+◌, ◌-◌, ◌*◌, ◌<◌, ◌≡◌, refl, List, [], ◌∷◌, get_or}
use Rattle.std.proofs.Math.Path.{sym, ap}
use Rattle.std.proofs.Common.{◌∙◌, arith, mod-lt, mul-le-mul_right, suc-mul}
use Rattle.std.proofs.Math.Decide.{ℕ_discrete}
use Rattle.header.specs.declared.PortIdentity.{PortIdentity}
use Rattle.announce.specs.declared.AnnounceMessage.{AnnounceMessage}
use Rattle.announce.specs.Wire.{announce_of, announce_with}
use Rattle.std.specs.declared.cmp.Ordering.{Ordering}
use Rattle.std.specs.declared.cmp.Ordering.TheVariants.{Less, Equal, Greater}
use Rattle.order.specs.Order.{cmp, then_by, lex, flip, is_less, is_greater}
use Rattle.order.specs.Rows.{Two, lt, eq, gt, two, cmp_less, cmp_greater, cmp_equal, lex-flip, stand, stand_equal, then_by_assoc}
use Rattle.compare.specs.Dataset.{by_quality, quality_row, figure34, as_ordering}
use Rattle.compare.proofs.Laws.{other-grandmaster}
use Rattle.choice.specs.declared.Candidate.{Candidate}
use Rattle.choice.specs.Candidate.{dataset_of, ranking, stays, whole}
use Rattle.agreement.specs.Agreement.{Foreign}
use Rattle.agreement.proofs.Ranking.{tie_row, ranking_35}
use Rattle.slot.specs.Blocks.{block}
use Rattle.slot.specs.Slot.{decode, decode-source}
use Rattle.history.specs.Port.{sender, best_of}
use Rattle.book.specs.Layout.{slot_at, identity_of, message_at, reads}
use Rattle.offers.specs.Offers.{newest_of}
use Rattle.stays.specs.Words.{grandmaster_of, far_row, near_row, stays_at, stays_same, stays-other}

-- ---- two numbers as one

digit_less : (n x y x' y' : ℕ) → y < n → x < x' → x * n + y < x' * n + y'
digit_less n x y x' y' h k = omega (arith, mul-le-mul_right n k, suc-mul x n)

cmp-digits : (n x y x' y' : ℕ) → y < n → y' < n → cmp (x * n + y) (x' * n + y') ≡ then_by (cmp x x') (cmp y y')
cmp-digits n x y x' y' h k = go (two x x') (two y y')
  where
    go : Two x x' → Two y y' → cmp (x * n + y) (x' * n + y') ≡ then_by (cmp x x') (cmp y y')
    go (lt a) t = rw (cmp_less x x' a, cmp_less (x * n + y) (x' * n + y') (digit_less n x y x' y' h a))
    go (gt a) t = rw (cmp_greater x x' a, cmp_greater (x * n + y) (x' * n + y') (digit_less n x' y' x y k a))
    go (eq a b) t = rw (cmp_equal x x' a b) (same t)
      where
        e : x ≡ x'
        e = omega arith

        same : Two y y' → cmp (x * n + y) (x' * n + y') ≡ cmp y y'
        same (lt c) = rw (e, cmp_less y y' c, cmp_less (x' * n + y) (x' * n + y') (omega arith))
        same (gt c) = rw (e, cmp_greater y y' c, cmp_greater (x' * n + y) (x' * n + y') (omega arith))
        same (eq c d) = rw (e, cmp_equal y y' c d, cmp_equal (x' * n + y) (x' * n + y') (omega arith) (omega arith))

-- a row that begins with two digits, and the row that begins with their number
lex-digits : (n x y x' y' : ℕ) (xs ys : List ℕ) → y < n → y' < n → lex ((x * n + y) ∷ xs) ((x' * n + y') ∷ ys) ≡ lex (x ∷ y ∷ xs) (x' ∷ y' ∷ ys)
unfolding lex
lex-digits n x y x' y' xs ys h k = rw (cmp-digits n x y x' y' h k) (then_by_assoc (cmp x x') (cmp y y') (lex xs ys))

-- five digits and their number
lex-five : (a b c d e x y z u v : ℕ) (gs hs : List ℕ) → b < 256 → c < 256 → d < 65536 → e < 256 → y < 256 → z < 256 → u < 65536 → v < 256
    → lex (((((a * 256 + b) * 256 + c) * 65536 + d) * 256 + e) ∷ gs) (((((x * 256 + y) * 256 + z) * 65536 + u) * 256 + v) ∷ hs)
    ≡ lex (a ∷ b ∷ c ∷ d ∷ e ∷ gs) (x ∷ y ∷ z ∷ u ∷ v ∷ hs)
lex-five a b c d e x y z u v gs hs lb lc ld le ly lz lu lv =
    lex-digits 256 (((a * 256 + b) * 256 + c) * 65536 + d) e (((x * 256 + y) * 256 + z) * 65536 + u) v gs hs le lv
    ∙ lex-digits 65536 ((a * 256 + b) * 256 + c) d ((x * 256 + y) * 256 + z) u (e ∷ gs) (v ∷ hs) ld lu
    ∙ lex-digits 256 (a * 256 + b) c (x * 256 + y) z (d ∷ e ∷ gs) (u ∷ v ∷ hs) lc lz
    ∙ lex-digits 256 a b x y (c ∷ d ∷ e ∷ gs) (z ∷ u ∷ v ∷ hs) lb ly

-- ---- what the words hold

-- the fields of a message are as small as their types
record Small (a : AnnounceMessage) : Type 0 where
  class : a.grandmaster_clock_quality.clock_class < 256
  accuracy : a.grandmaster_clock_quality.clock_accuracy < 256
  variance : a.grandmaster_clock_quality.offset_scaled_log_variance < 65536
  priority2 : a.grandmaster_priority_2 < 256

small : (m : List ℕ) (k : ℕ) → Small (message_at m k).message
unfolding message_at decode announce_of announce_with
small m k = record { class = mod-lt _ (omega arith); accuracy = mod-lt _ (omega arith); variance = mod-lt _ (omega arith); priority2 = mod-lt _ (omega arith) }

-- the sender of a message is its master
sender-word : (m : List ℕ) (k : ℕ) → (sender reads (message_at m k)).clock_identity ≡ get_or m 0 0
unfolding message_at
sender-word m k = ap (λ (x : PortIdentity). x.clock_identity) (decode-source (identity_of m) (block m (slot_at (get_or m 2 0) k) 8))

-- ---- the comparison of two masters' newest messages

-- the candidate of a master's newest message, received by a port
abbrev pub candidate_at : PortIdentity → List ℕ → Candidate
candidate_at r m = whole (best_of reads r (newest_of m))

-- between two grandmasters the verdict is that of the rows
quality-stays : (o p : Ordering) → (o ≡ Equal → ⊥) → is_greater (then_by (as_ordering (by_quality o)) p) ≡ is_less o
quality-stays Less p n = refl
quality-stays Equal p n = absurd (n refl)
quality-stays Greater p n = refl

module _ (r : PortIdentity) (m n : List ℕ) where
  -- the five numbers compare as one
  far_rows : lex (far_row m) (far_row n) ≡ lex (quality_row (dataset_of (candidate_at r m))) (quality_row (dataset_of (candidate_at r n)))
  far_rows =
      let a = (newest_of m).message in
      let b = (newest_of n).message in
      let q = a.grandmaster_clock_quality in
      let t = b.grandmaster_clock_quality in
      let x = small m (get_or m 3 0 - 1) in
      let y = small n (get_or n 3 0 - 1) in
      lex-five a.grandmaster_priority_1 q.clock_class q.clock_accuracy q.offset_scaled_log_variance a.grandmaster_priority_2
      b.grandmaster_priority_1 t.clock_class t.clock_accuracy t.offset_scaled_log_variance b.grandmaster_priority_2
      (a.grandmaster_identity ∷ []) (b.grandmaster_identity ∷ [])
      x.class x.accuracy x.variance x.priority2 y.class y.accuracy y.variance y.priority2

  -- the receiver is one, and decides nothing
  near_rows : lex (near_row m) (near_row n) ≡ lex (tie_row (candidate_at r m)) (tie_row (candidate_at r n))
  unfolding lex
  near_rows = rw (sender-word m, sender-word n, cmp_equal r.port_number r.port_number (omega arith) (omega arith))

  -- one grandmaster, then two
  near-stays : grandmaster_of m ≡ grandmaster_of n → Foreign (dataset_of (candidate_at r m)) → Foreign (dataset_of (candidate_at r n))
      → is_less (lex (near_row m) (near_row n)) ≡ stays (candidate_at r m) (candidate_at r n)
  unfolding stays
  near-stays e f g =
      let xs = tie_row (candidate_at r m) in
      let ys = tie_row (candidate_at r n) in
      ap is_less (near_rows ∙ lex-flip ys xs ∙ ap flip (lex-flip xs ys)) ∙ sym (ap is_greater (ranking_35 (candidate_at r m) (candidate_at r n) e f g))

  last-number : quality_row (dataset_of (candidate_at r m)) ≡ quality_row (dataset_of (candidate_at r n)) → grandmaster_of m ≡ grandmaster_of n
  last-number q = cc

  far-stays : (grandmaster_of m ≡ grandmaster_of n → ⊥) → is_less (lex (far_row m) (far_row n)) ≡ stays (candidate_at r m) (candidate_at r n)
  unfolding stays ranking figure34
  far-stays e =
      let x = dataset_of (candidate_at r m) in
      let y = dataset_of (candidate_at r n) in
      rw (other-grandmaster x y e)
      (ap is_less far_rows
      ∙ sym (quality-stays (lex (quality_row x) (quality_row y)) (cmp (candidate_at r n).age (candidate_at r m).age) (λ q. e (last-number (stand_equal (rw q at (stand (quality_row x) (quality_row y))))))))

  -- The choice on words is the crate's, between messages that the receiver's clock did not send.
  pub stays-words : (r.clock_identity ≡ get_or m 0 0 → ⊥) → (r.clock_identity ≡ get_or n 0 0 → ⊥) → stays_at m n ≡ stays (candidate_at r m) (candidate_at r n)
  stays-words f g = go (ℕ_discrete (grandmaster_of m) (grandmaster_of n))
    where
      foreign : (w : List ℕ) → (r.clock_identity ≡ get_or w 0 0 → ⊥) → Foreign (dataset_of (candidate_at r w))
      foreign w f e = f (e ∙ sender-word w (get_or w 3 0 - 1))

      go : Dec (grandmaster_of m ≡ grandmaster_of n) → stays_at m n ≡ stays (candidate_at r m) (candidate_at r n)
      go (yes e) = stays_same m n e ∙ near-stays e (foreign m f) (foreign n g)
      go (no e) = stays-other m n e ∙ far-stays e
