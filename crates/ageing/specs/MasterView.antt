-- A master's words aged are its messages aged: on a sound list ages never rise, so the messages that go are its front.
-- Assumes nothing.
use Rattle.std.specs.Prelude.{◌≡◌, ℕ, zero, suc, ◌+◌, ◌-◌, ◌*◌, ◌%◌, ◌^◌, ◌<◌, ◌≤◌, Bool, true, false, cond, not, ◌&&◌, List, [], ◌∷◌, map, length, ◌≢◌, nat_le, nat_lt, slice_index, slice_index_or, slice_set, refl}
use Rattle.std.proofs.Math.Path.{sym, ap, ap₂}
use Rattle.std.proofs.Common.{◌∙◌, ⊎_elim, zero-add, suc-add, eq-or-lt_of_le, le_of_suc-le-suc, not-suc-le-zero, sub-one, length-set, get_or-set_same, get_or-set_other}
use native.Mathlib.Omega.{arith}
use Rattle.std.proofs.Math.Nat.{sub-zero, suc-sub-suc, mod-eq_of_lt}
use borrow.Author.Tests.{lt-ltb, ltb-true, leb-true}
use Rattle.std.proofs.Math.Arith.{lt_of_le-ne}
use Rattle.std.proofs.Math.Dec.{eqb-suc-zero}
use Rattle.wire.specs.Below.{both}
use Rattle.header.specs.declared.PortIdentity.{PortIdentity}
use Rattle.slot.specs.Blocks.{block, length-block, block-set-before, block-set-after, block-set_in, le-or-lt}
use Rattle.slot.specs.Slot.{decode, aged, decode-aged}
use Rattle.slot.specs.declared.ForeignAnnounceMessage.{ForeignAnnounceMessage}
use Rattle.history.specs.Rules.{in_step, steps_limit}
use Rattle.history.specs.Port.{sequence, steps, sift, older, young, remaining, leaving, age_master}
use Rattle.history.specs.Sound.{holdable, follows}
use Rattle.book.specs.Below.{tab, tab-ext, length-tab, map-tab, first, first-le}
use Rattle.book.specs.Layout.{master_words, identity_of, slot_at, message_at, master_of, reads, age-word}
use Rattle.book.specs.Rules.{rule_at, HeldMaster}
use Rattle.book.proofs.Rules.{holdable-word}
use Rattle.ageing.specs.Age.{older_at, older_to, stale, gone, without, aged_master}
use Rattle.ageing.specs.AgeLaws.{length-older_to, older_at-word, older_to-word}

-- ---- what passes a test, on the values of a function

-- where the test holds once, it holds from there on
abbrev Lasts : (ℕ → Bool) → ℕ → Type 0
Lasts p n = (j k : ℕ) → j ≤ k → k < n → p j ≡ true → p k ≡ true

module _ {A : Type 0} (q : A → Bool) where
  -- where all pass, all stay
  sift-all : (n : ℕ) (f : ℕ → A) → ((k : ℕ) → k < n → q (f k) ≡ true) → sift q (tab n f) ≡ tab n f
  sift-all zero f h = refl
  sift-all (suc n) f h =
      simp (h zero (omega arith)) (ap (λ (l : List A). f zero ∷ l) (sift-all n (λ k. f (suc k)) (λ k l. h (suc k) (omega arith))))

  -- those that pass are the values from the first that passes on
  sift-lasts : (n : ℕ) (f : ℕ → A) → Lasts (λ k. q (f k)) n
      → sift q (tab n f) ≡ tab (n - first n (λ k. q (f k))) (λ k. f (first n (λ k. q (f k)) + k))
  sift-lasts zero f h = refl
  sift-lasts (suc n) f h =
      pick (q (f zero)) (first n (λ k. q (f (suc k)))) (sift q (tab n (λ k. f (suc k))))
      (λ e. sift-all n (λ k. f (suc k)) (λ k l. h zero (suc k) (omega arith) (omega arith) e))
      (sift-lasts n (λ k. f (suc k)) (λ j k l u e. h (suc j) (suc k) (omega arith) (omega arith) e))
      refl
    where
      pick : (b : Bool) (F : ℕ) (r : List A) → (q (f zero) ≡ true → r ≡ tab n (λ k. f (suc k))) → r ≡ tab (n - F) (λ k. f (suc (F + k))) → q (f zero) ≡ b
          → cond b (f zero ∷ r) r ≡ tab (suc n - cond b zero (suc F)) (λ k. f (cond b zero (suc F) + k))
      pick true F r all e t =
          ap (λ (l : List A). f zero ∷ l) (all t)
          ∙ sym (ap (λ (j : ℕ). tab j (λ k. f (zero + k))) (sub-zero (suc n)) ∙ tab-ext (suc n) (λ k. f (zero + k)) f (λ k l. ap f (zero-add k)))
      pick false F r all e t =
          e
          ∙ sym
          (ap (λ (j : ℕ). tab j (λ k. f (suc F + k))) (suc-sub-suc n F)
          ∙ tab-ext (n - F) (λ k. f (suc F + k)) (λ k. f (suc (F + k))) (λ k l. ap f (suc-add F k)))

  -- each either passes or not
  sift-both : (l : List A) → length (sift q l) + length (sift (λ m. not (q m)) l) ≡ length l
  sift-both [] = refl
  sift-both (x ∷ xs) = pick (q x) (sift-both xs)
    where
      pick : (b : Bool) → length (sift q xs) + length (sift (λ m. not (q m)) xs) ≡ length xs
          → length (cond b (x ∷ sift q xs) (sift q xs)) + length (cond (not b) (x ∷ sift (λ m. not (q m)) xs) (sift (λ m. not (q m)) xs)) ≡ suc (length xs)
      pick true e = omega arith
      pick false e = omega arith

-- ---- one message older

-- a message, by words before the slots that are those of another master
head-message : (v w : List ℕ) (k : ℕ) → ((i : ℕ) → i < 3 → slice_index v i ≡ slice_index w i)
    → message_at v k ≡ decode (identity_of w) (block v (slot_at (slice_index w 2) k) 8)
unfolding message_at
head-message v w k h = rw (h 0 (omega arith), h 1 (omega arith), h 2 (omega arith))

-- two places of a ring
ring_apart : (s j k : ℕ) → j < 8 → k < 8 → (k ≢ j) → (s + k) % 8 ≢ (s + j) % 8
ring_apart s j k hj hk ne q = ne (omega arith)

module _ (step k : ℕ) (w : List ℕ) (size : length w ≡ master_words) where
  -- the message itself
  older-same : (message_at w k).age + step < 2 ^ 64 → message_at (older_at step k w) k ≡ older reads step (message_at w k)
  unfolding message_at older_at
  older-same fits =
      let b : ℕ = slot_at (slice_index w 2) k in
      let v : ℕ = (slice_index w (b + 2) + step) % 2 ^ 64 in
      let e : v ≡ (message_at w k).age + step = ap (λ (x : ℕ). (x + step) % 2 ^ 64) (sym (age-word w k)) ∙ mod-eq_of_lt fits in
      head-message (older_at step k w) w k (λ i h. older_at-word step k w i (omega arith))
      ∙ ap (decode (identity_of w)) (block-set_in w 2 v b 8 (omega arith))
      ∙ decode-aged (identity_of w) (block w b 8) v (length-block w b 8 (omega arith))
      ∙ ap (aged (message_at w k)) e

  -- and every other
  older-other : (j : ℕ) → j < 8 → k < 8 → (k ≢ j) → message_at (older_at step k w) j ≡ message_at w j
  unfolding message_at older_at
  older-other j hj hk ne =
      let s : ℕ = slice_index_or w 2 0 in
      let v : ℕ = (slice_index w (slot_at s k + 2) + step) % 2 ^ 64 in
      head-message (older_at step k w) w j (λ i h. older_at-word step k w i (omega arith))
      ∙ ap (decode (identity_of w))
      (⊎_elim
      (λ l. block-set-before w (slot_at s k + 2) v (slot_at s j) 8 (omega (arith, lt_of_le-ne l (ring_apart s j k hj hk ne))))
      (λ l. block-set-after w (slot_at s k + 2) v (slot_at s j) 8 (omega arith))
      (le-or-lt ((s + k) % 8) ((s + j) % 8)))

-- ---- the first n messages older

module _ (step : ℕ) (w : List ℕ) (size : length w ≡ master_words) where
  -- the words keep their length
  sized : (n : ℕ) → length (older_to step n w) ≡ master_words
  sized n = length-older_to step n w ∙ size

  -- those still to come are as they were
  to-later : (n j : ℕ) → n ≤ j → j < 8 → message_at (older_to step n w) j ≡ message_at w j
  to-later zero j h l = refl
  to-later (suc n) j h l = older-other step n (older_to step n w) (sized n) j l (omega arith) (λ q. omega arith) ∙ to-later n j (omega arith) l

  -- those before are older
  to-done : (n j : ℕ) → j < n → n ≤ 8 → (message_at w j).age + step < 2 ^ 64 → message_at (older_to step n w) j ≡ older reads step (message_at w j)
  to-done zero j h l fits = absurd (not-suc-le-zero h)
  to-done (suc n) j h l fits =
      ⊎_elim
      (λ e. let same : message_at (older_to step n w) n ≡ message_at w j = to-later n n (omega arith) (omega arith) ∙ ap (message_at w) (sym e) in
      ap (message_at (older_to step (suc n) w)) e
      ∙ older-same step n (older_to step n w) (sized n) (rw same fits)
      ∙ ap (older reads step) same)
      (λ lt. older-other step n (older_to step n w) (sized n) j (omega arith) (omega arith) (λ q. omega arith) ∙ to-done n j lt (omega arith) fits)
      (eq-or-lt_of_le (le_of_suc-le-suc h))

-- ---- the front let go

module _ (n : ℕ) (w : List ℕ) (size : length w ≡ master_words) where
  -- the first slot
  without-start : slice_index_or (without n w) 2 0 ≡ (slice_index w 2 + n) % 8
  without-start =
      get_or-set_other (slice_set w 2 ((slice_index w 2 + n) % 8)) 3 2 (slice_index w 3 - n) 0 (λ q. omega arith) ∙ get_or-set_same w 2 ((slice_index w 2 + n) % 8) 0 (omega arith)

  -- the count
  without-count : slice_index_or (without n w) 3 0 ≡ slice_index w 3 - n
  without-count = get_or-set_same (slice_set w 2 ((slice_index w 2 + n) % 8)) 3 (slice_index w 3 - n) 0 (omega (arith, length-set w 2 ((slice_index w 2 + n) % 8)))

  -- the identity stays
  without-name : identity_of (without n w) ≡ identity_of w
  without-name = rw (word 0 (omega arith), word 1 (omega arith))
    where
      word : (i : ℕ) → i < 2 → slice_index (without n w) i ≡ slice_index w i
      word i h =
          get_or-set_other (slice_set w 2 ((slice_index w 2 + n) % 8)) 3 i (slice_index w 3 - n) 0 (λ q. omega arith) ∙ get_or-set_other w 2 i ((slice_index w 2 + n) % 8) 0 (λ q. omega arith)

  -- and the messages are those after the front
  without-message : (k : ℕ) → message_at (without n w) k ≡ message_at w (n + k)
  unfolding message_at
  without-message k =
      let e : ((slice_index w 2 + n) % 8 + k) % 8 ≡ (slice_index w 2 + (n + k)) % 8 = omega arith in
      let b : ℕ = slot_at (slice_index w 2) (n + k) in
      ap (λ (x : PortIdentity). decode x (block (without n w) (slot_at (slice_index (without n w) 2) k) 8)) without-name
      ∙ ap (λ (s : ℕ). decode (identity_of w) (block (without n w) (slot_at s k) 8)) without-start
      ∙ ap (λ (x : ℕ). decode (identity_of w) (block (without n w) (4 + x * 8) 8)) e
      ∙ ap (decode (identity_of w))
      (block-set-before (slice_set w 2 ((slice_index w 2 + n) % 8)) 3 (slice_index w 3 - n) b 8 (omega arith) ∙ block-set-before w 2 ((slice_index w 2 + n) % 8) b 8 (omega arith))

-- ---- the ages of a sound master

-- the age that was given
aged-age : (m : ForeignAnnounceMessage) (n : ℕ) → (aged m n).age ≡ n
unfolding aged
aged-age m n = refl

-- a message after the first follows the one before
rule-next : (limit : ℕ) (w : List ℕ) (k : ℕ)
    → rule_at limit w (suc k) ≡ (holdable reads (identity_of w) limit (message_at w (suc k)) && follows reads (message_at w k) (message_at w (suc k)))
unfolding rule_at
rule-next limit w k = simp (eqb-suc-zero k, sub-one)

module _ (limit : ℕ) (w : List ℕ) (held : HeldMaster limit w) where
  -- each is below the limit
  age-below : (k : ℕ) → k < slice_index w 3 → (message_at w k).age < limit
  unfolding rule_at
  age-below k h =
      let m : ForeignAnnounceMessage = message_at w k in
      let hold = (both (holdable reads (identity_of w) limit m) _ (held.message k h)).0 in
      ltb-true m.age limit (both (nat_lt (steps reads m) steps_limit) (nat_lt m.age limit) (sym (holdable-word limit w k) ∙ hold)).1

  -- and at most the one before
  age-next : (k : ℕ) → suc k < slice_index w 3 → (message_at w (suc k)).age ≤ (message_at w k).age
  unfolding follows
  age-next k h =
      let a : ForeignAnnounceMessage = message_at w k in
      let b : ForeignAnnounceMessage = message_at w (suc k) in
      let f = (both (holdable reads (identity_of w) limit b) (follows reads a b) (sym (rule-next limit w k) ∙ held.message (suc k) h)).1 in
      leb-true b.age a.age (both (nat_le b.age a.age) (in_step (sequence reads a) (sequence reads b)) f).0

  -- so ages never rise
  age-falls : (j k : ℕ) → j ≤ k → k < slice_index w 3 → (message_at w k).age ≤ (message_at w j).age
  age-falls j zero l h =
      let e : j ≡ 0 = omega arith in
      rw e (omega arith)
  age-falls j (suc k) l h =
      ⊎_elim (λ e. rw e (omega arith)) (λ lt. omega (arith, age-next k h, age-falls j k (le_of_suc-le-suc lt) (omega arith))) (eq-or-lt_of_le l)

-- ---- a master aged

module _ (step limit : ℕ) (w : List ℕ) (size : length w ≡ master_words) (held : HeldMaster limit w) (fits : limit + step ≤ 2 ^ 64) where
  -- how many messages there are
  abbrev count : ℕ
  count = slice_index w 3

  -- the words with every message older
  v : List ℕ
  v = older_to step count w

  -- each message of them
  each : (k : ℕ) → k < count → message_at v k ≡ older reads step (message_at w k)
  unfolding v
  each k h = to-done step w size count k h held.few (omega (arith, age-below limit w held k h))

  -- and its age
  each-age : (k : ℕ) → k < count → (message_at v k).age ≡ (message_at w k).age + step
  each-age k h = ap (λ (m : ForeignAnnounceMessage). m.age) (each k h) ∙ aged-age (message_at w k) ((message_at w k).age + step)

  -- message k is young enough
  fresh : ℕ → Bool
  fresh k = young reads limit (message_at v k)

  -- and so is every later one
  fresh-lasts : Lasts fresh count
  unfolding fresh
  fresh-lasts j k l h e =
      lt-ltb (message_at v k).age limit
      (omega (arith, ltb-true (message_at v j).age limit e, each-age j (omega arith), each-age k h, age-falls limit w held j k l h))

  -- the words hold the older messages
  all-older : tab count (message_at v) ≡ map (older reads step) (tab count (message_at w))
  all-older = tab-ext count (message_at v) (λ k. older reads step (message_at w k)) each ∙ sym (map-tab (older reads step) count (message_at w))

  -- as many go as stand before the first young one
  gone-first : gone step limit w ≡ first count fresh
  unfolding gone stale fresh v
  gone-first = ap (λ (n : ℕ). first n fresh) (older_to-word step count w 3 (omega arith))

  -- the others remain
  stays : tab (count - first count fresh) (λ k. message_at v (first count fresh + k)) ≡ remaining reads step limit (master_of w).messages
  unfolding remaining master_of fresh
  stays = sym (sift-lasts (young reads limit) count (message_at v) fresh-lasts) ∙ ap (sift (young reads limit)) all-older

  -- the words of a master aged are that master aged
  pub master-aged : master_of (aged_master step limit w) ≡ age_master reads step limit (master_of w)
  unfolding master_of aged_master v
  master-aged =
      let n : ℕ = first count fresh in
      let z : length v ≡ master_words = sized step w size count in
      let word : (i : ℕ) → i < 4 → slice_index v i ≡ slice_index_or w i 0 = λ i h. older_to-word step count w i h in
      let list : tab (slice_index (without n v) 3) (message_at (without n v)) ≡ remaining reads step limit (master_of w).messages =
      ap (λ (j : ℕ). tab j (message_at (without n v))) (without-count n v z ∙ ap (λ (c : ℕ). c - n) (word 3 (omega arith)))
      ∙ tab-ext (count - n) (message_at (without n v)) (λ k. message_at v (n + k)) (λ k l. without-message n v z k)
      ∙ stays in
      let name : identity_of v ≡ identity_of w = rw (word 0 (omega arith), word 1 (omega arith)) in
      ap (λ (g : ℕ). master_of (without g v)) gone-first
      ∙ ap₂ (λ (x : PortIdentity) (ms : List ForeignAnnounceMessage). record { source = x; messages = ms }) (without-name n v z ∙ name) list

  -- and its tally is how many leave
  pub master-gone : gone step limit w ≡ length (leaving reads step limit (master_of w).messages)
  unfolding leaving remaining master_of
  master-gone =
      let ms : List ForeignAnnounceMessage = map (older reads step) (tab count (message_at w)) in
      let n : ℕ = first count fresh in
      let all : length ms ≡ count = ap length (sym all-older) ∙ length-tab count (message_at v) in
      let left : length (sift (young reads limit) ms) ≡ count - n =
      ap length (sym stays) ∙ length-tab (count - n) (λ k. message_at v (n + k)) in
      gone-first ∙ omega (arith, sift-both (young reads limit) ms, first-le fresh count)
