-- A message at the end of a master's ring is the message at the end of its list.
-- Assumes nothing.
use Prim.Native.Nat.{ℕ, zero, suc, ◌+◌, ◌*◌, ◌%◌, ◌≤◌, ◌<◌}
use Rattle.std.specs.Prelude.{◌≡◌, refl, Bool, true, false, cond, List, [], ◌∷◌, ◌++◌, ltb, length, set, take, drop}
use Rattle.std.proofs.Math.Path.{sym, ap, ap₂}
use Rattle.std.proofs.Common.{◌∙◌, ⊎_elim, le_of_eq, mod-eq_of_lt, lt-ltb, le-ltb, length-set, get_or-set_same, get_or-set_other, take_at}
use native.Mathlib.Omega.{arith}
use Rattle.std.proofs.Math.ListN.{get_or}
use Rattle.wire.specs.Be.{put}
use Rattle.wire.proofs.BeLaws.{length-put, get_or-put_before}
use Rattle.header.specs.declared.PortIdentity.{PortIdentity}
use Rattle.slot.specs.Blocks.{block, grid-same, grid-other, block-set-before, le-or-lt}
use Rattle.slot.specs.Slot.{Whole, encode, decode, length-encode, decode-encode}
use Rattle.slot.specs.declared.ForeignAnnounceMessage.{ForeignAnnounceMessage}
use Rattle.history.specs.Rules.{messages_max}
use Rattle.history.specs.Port.{Master, with, push, put_out, sender}
use Rattle.book.specs.Below.{tab, tab-push, tab-turn, length-tab}
use Rattle.book.specs.Layout.{master_words, slot_at, identity, identity_of, message_at, master_of, reads}
use Rattle.admission.specs.Admit.{puts_out, appended, begun}

-- ---- a list with one message more

push-room : (ms : List ForeignAnnounceMessage) (m : ForeignAnnounceMessage) → length ms < messages_max → push ms m ≡ (ms ++ (m ∷ []))
unfolding push
push-room ms m h = simp (lt-ltb _ _ h)

push-full : (ms : List ForeignAnnounceMessage) (m : ForeignAnnounceMessage) → messages_max ≤ length ms → push ms m ≡ (drop 1 ms ++ (m ∷ []))
unfolding push
push-full ms m h = simp (le-ltb _ _ h)

master-eq : {s s' : PortIdentity} {ms ms' : List ForeignAnnounceMessage} → s ≡ s' → ms ≡ ms'
    → ◌≡◌ {A = Master ForeignAnnounceMessage} (record { source = s; messages = ms }) (record { source = s'; messages = ms' })
master-eq p q = λ i. record { source = p i; messages = q i }

-- ---- messages of words that are alike where the message stands

identity-eq : {c c' n n' : ℕ} → c ≡ c' → n ≡ n' → identity c (n % 65536) ≡ identity c' (n' % 65536)
identity-eq p q = λ i. identity (p i) (q i % 65536)

module _ (w e : List ℕ) (x : ℕ) (size : length w ≡ master_words) (eight : length e ≡ 8) (low : x < 8) where
  fits : 4 + x * 8 + 8 ≤ length w
  fits = omega arith

  -- one of the four words before the slots is set besides
  slot_same : (i v : ℕ) → i < 4 → block (set (put w (4 + x * 8) e) i v) (4 + x * 8) 8 ≡ e
  slot_same i v h = block-set-before (put w (4 + x * 8) e) i v (4 + x * 8) 8 (omega arith) ∙ grid-same w e 4 8 x eight fits

  slot-other : (i v y : ℕ) → i < 4 → (x ≡ y → ⊥) → block (set (put w (4 + x * 8) e) i v) (4 + y * 8) 8 ≡ block w (4 + y * 8) 8
  slot-other i v y h ne = block-set-before (put w (4 + x * 8) e) i v (4 + y * 8) 8 (omega arith) ∙ grid-other w e 4 8 x eight fits y ne

  word_same : (i v : ℕ) → i < 4 → get_or (set (put w (4 + x * 8) e) i v) i 0 ≡ v
  word_same i v h = get_or-set_same (put w (4 + x * 8) e) i v 0 (omega (arith, length-put w (4 + x * 8) e (omega arith)))

  word-other : (i v j : ℕ) → j < 4 → (j ≡ i → ⊥) → get_or (set (put w (4 + x * 8) e) i v) j 0 ≡ get_or w j 0
  word-other i v j h ne = get_or-set_other (put w (4 + x * 8) e) i j v 0 ne ∙ get_or-put_before w (4 + x * 8) e j (omega arith) (omega arith)

  -- the identity stays
  named-same : (i v : ℕ) → 1 < i → i < 4 → identity_of (set (put w (4 + x * 8) e) i v) ≡ identity_of w
  named-same i v l u = identity-eq (word-other i v 0 (omega arith) (λ q. omega arith)) (word-other i v 1 (omega arith) (λ q. omega arith))

-- slots of a ring, with few facts in reach of `omega`
turned : (s n k : ℕ) → n ≡ 8 → k < 7 → (s + n) % 8 ≡ (s + suc k) % 8 → ⊥
turned s n k e h q = omega arith

turn : (s k : ℕ) → ((s + 1) % 8 + k) % 8 ≡ (s + suc k) % 8
turn s k = omega arith

-- ---- a message at the end of a ring

module _ (w : List ℕ) (m : ForeignAnnounceMessage) (size : length w ≡ master_words) (few : get_or w 3 0 ≤ messages_max) (whole : Whole m)
    (sent : identity_of w ≡ sender reads m) where
  slot : ℕ
  slot = (get_or w 2 0 + get_or w 3 0) % 8

  room : List ℕ
  room = set (put w (4 + slot * 8) (encode m)) 3 (get_or w 3 0 + 1)

  full : List ℕ
  full = set (put w (4 + slot * 8) (encode m)) 2 ((get_or w 2 0 + 1) % 8)

  -- what stands in the new slot is the message
  new_here : (id : PortIdentity) (e : List ℕ) → id ≡ identity_of w → e ≡ encode m → decode id e ≡ m
  new_here id e p q = ap₂ decode (p ∙ sent) q ∙ decode-encode m whole

  -- seven or fewer are held
  room-old : (k : ℕ) → get_or w 3 0 < 8 → k < get_or w 3 0 → message_at room k ≡ message_at w k
  unfolding message_at slot room
  room-old k l h =
      ap₂ decode (named-same w (encode m) slot size (length-encode m) (omega arith) 3 _ (omega arith) (omega arith))
      (ap (λ (s : ℕ). block room (slot_at s k) 8) (word-other w (encode m) slot size (length-encode m) (omega arith) 3 _ 2 (omega arith) (λ q. omega arith))
      ∙ slot-other w (encode m) slot size (length-encode m) (omega arith) 3 _ ((get_or w 2 0 + k) % 8) (omega arith) (λ q. omega arith))

  room_new : message_at room (get_or w 3 0) ≡ m
  unfolding message_at slot room
  room_new =
      new_here (identity_of room) (block room (slot_at (get_or room 2 0) (get_or w 3 0)) 8)
      (named-same w (encode m) slot size (length-encode m) (omega arith) 3 _ (omega arith) (omega arith))
      (ap (λ (s : ℕ). block room (slot_at s (get_or w 3 0)) 8) (word-other w (encode m) slot size (length-encode m) (omega arith) 3 _ 2 (omega arith) (λ q. omega arith))
      ∙ slot_same w (encode m) slot size (length-encode m) (omega arith) 3 _ (omega arith))

  -- eight are held: the ring starts one slot later
  full-old : (k : ℕ) → get_or w 3 0 ≡ 8 → k < 7 → message_at full k ≡ message_at w (suc k)
  unfolding message_at slot full
  full-old k l h =
      ap₂ decode (named-same w (encode m) slot size (length-encode m) (omega arith) 2 _ (omega arith) (omega arith))
      (ap (λ (s : ℕ). block full (slot_at s k) 8) (word_same w (encode m) slot size (length-encode m) (omega arith) 2 _ (omega arith))
      ∙ ap (λ (x : ℕ). block full (4 + x * 8) 8) (turn (get_or w 2 0) k)
      ∙ slot-other w (encode m) slot size (length-encode m) (omega arith) 2 _ ((get_or w 2 0 + suc k) % 8) (omega arith) (turned (get_or w 2 0) (get_or w 3 0) k l h))

  full_new : get_or w 3 0 ≡ 8 → message_at full 7 ≡ m
  unfolding message_at slot full
  full_new l =
      let e : ((get_or w 2 0 + 1) % 8 + 7) % 8 ≡ (get_or w 2 0 + get_or w 3 0) % 8 = omega arith in
      new_here (identity_of full) (block full (slot_at (get_or full 2 0) 7) 8)
      (named-same w (encode m) slot size (length-encode m) (omega arith) 2 _ (omega arith) (omega arith))
      (ap (λ (s : ℕ). block full (slot_at s 7) 8) (word_same w (encode m) slot size (length-encode m) (omega arith) 2 _ (omega arith))
      ∙ ap (λ (x : ℕ). block full (4 + x * 8) 8) e
      ∙ slot_same w (encode m) slot size (length-encode m) (omega arith) 2 _ (omega arith))

  -- the list of messages
  room-list : get_or w 3 0 < 8 → tab (get_or room 3 0) (message_at room) ≡ tab (get_or w 3 0) (message_at w) ++ (m ∷ [])
  unfolding slot room
  room-list l =
      tab-push (get_or w 3 0) (get_or room 3 0) (message_at room) (message_at w) m
      (word_same w (encode m) slot size (length-encode m) (omega arith) 3 (get_or w 3 0 + 1) (omega arith)) (λ k h. room-old k l h) room_new

  full-list : get_or w 3 0 ≡ 8 → tab (get_or full 3 0) (message_at full) ≡ drop 1 (tab (get_or w 3 0) (message_at w)) ++ (m ∷ [])
  unfolding slot full
  full-list e =
      tab-turn (get_or w 3 0) (get_or full 3 0) (message_at full) (message_at w) m 7
      (word-other w (encode m) slot size (length-encode m) (omega arith) 2 ((get_or w 2 0 + 1) % 8) 3 (omega arith) (λ q. omega arith) ∙ e) e
      (λ k h. full-old k e h) (full_new e)

  room_view : get_or w 3 0 < 8 → master_of (appended w m) ≡ with (master_of w) (push (master_of w).messages m)
  unfolding master_of appended slot room
  room_view l =
      rw (lt-ltb (get_or w 3 0) messages_max l)
      (master-eq (named-same w (encode m) slot size (length-encode m) (omega arith) 3 (get_or w 3 0 + 1) (omega arith) (omega arith))
      (room-list l ∙ sym (push-room (tab (get_or w 3 0) (message_at w)) m (rw length-tab l))))

  full_view : get_or w 3 0 ≡ 8 → master_of (appended w m) ≡ with (master_of w) (push (master_of w).messages m)
  unfolding master_of appended slot full
  full_view e =
      rw (le-ltb (get_or w 3 0) messages_max (le_of_eq (sym e)))
      (master-eq (named-same w (encode m) slot size (length-encode m) (omega arith) 2 ((get_or w 2 0 + 1) % 8) (omega arith) (omega arith))
      (full-list e ∙ sym (push-full (tab (get_or w 3 0) (message_at w)) m (rw length-tab (le_of_eq (sym e))))))

  pub appended_view : master_of (appended w m) ≡ with (master_of w) (push (master_of w).messages m)
  appended_view = ⊎_elim (λ l. full_view (omega arith)) room_view (le-or-lt 8 (get_or w 3 0))

pub length-appended : (w : List ℕ) (m : ForeignAnnounceMessage) → length w ≡ master_words → length (appended w m) ≡ master_words
unfolding appended
length-appended w m size =
    let l : length (put w (slot_at (get_or w 2 0) (get_or w 3 0)) (encode m)) ≡ master_words =
    length-put w (slot_at (get_or w 2 0) (get_or w 3 0)) (encode m) (omega (arith, length-encode m)) ∙ size in
    pick (ltb (get_or w 3 0) messages_max) l
  where
    pick : (b : Bool) → length (put w (slot_at (get_or w 2 0) (get_or w 3 0)) (encode m)) ≡ master_words
        → length
        (cond b (set (put w (slot_at (get_or w 2 0) (get_or w 3 0)) (encode m)) 3 (get_or w 3 0 + 1))
        (set (put w (slot_at (get_or w 2 0) (get_or w 3 0)) (encode m)) 2 ((get_or w 2 0 + 1) % 8)))
        ≡ master_words
    pick true l = simp length-set l
    pick false l = simp length-set l

-- how many are put out
pub puts_out_view : (w : List ℕ) → puts_out w ≡ length (put_out (master_of w).messages)
unfolding puts_out put_out master_of
puts_out_view w =
    ⊎_elim (λ l. rw (length-tab (get_or w 3 0) (message_at w), le-ltb (get_or w 3 0) messages_max l) (sym (one (get_or w 3 0) (message_at w) l)))
    (λ l. rw (length-tab (get_or w 3 0) (message_at w), lt-ltb (get_or w 3 0) messages_max l) refl) (le-or-lt messages_max (get_or w 3 0))
  where
    one : (n : ℕ) (f : ℕ → ForeignAnnounceMessage) → messages_max ≤ n → length (take 1 (tab n f)) ≡ 1
    one (suc n) f h = refl
    one zero f h = absurd (omega arith)

-- ---- a master with its first message

pub begun_view : (w : List ℕ) (src : PortIdentity) (m : ForeignAnnounceMessage) → sender reads m ≡ src → src.port_number < 65536 → Whole m
    → master_of (begun w src m) ≡ record { source = src; messages = m ∷ [] }
unfolding master_of message_at begun put
begun_view w src m sent h whole =
    let id : identity src.clock_identity (src.port_number % 65536) ≡ src = ap (identity src.clock_identity) (mod-eq_of_lt h) in
    let rest : List ℕ = drop (0 + length (src.clock_identity ∷ src.port_number ∷ 0 ∷ 1 ∷ encode m)) w in
    master-eq id
    (ap (λ (x : ForeignAnnounceMessage). x ∷ []) (ap₂ decode (id ∙ sym sent) (take_at (encode m) rest 8 (length-encode m)) ∙ decode-encode m whole))

pub length-begun : (w : List ℕ) (src : PortIdentity) (m : ForeignAnnounceMessage) → length w ≡ master_words → length (begun w src m) ≡ master_words
unfolding begun
length-begun w src m size = length-put w 0 (src.clock_identity ∷ src.port_number ∷ 0 ∷ 1 ∷ encode m) (omega (arith, length-encode m)) ∙ size
