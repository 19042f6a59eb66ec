-- Laws of the word-level definitions of ageing, for the functions' proofs: what keeps its length, and which words stay.
-- Assumes nothing.
use Rattle.std.specs.Prelude.{◌≡◌, ℕ, zero, suc, ◌+◌, ◌-◌, ◌<◌, ◌≤◌, true, false, List, ◌++◌, length, take, drop, nat_le, slice_index, refl}
use Rattle.std.proofs.Common.{sym, ap, ◌∙◌, ⊎_elim, arith, eq-or-lt_of_le, le_of_suc-le-suc, not-suc-le-zero, le-leb, length-set, length-drop, get_or-set_other, get_or-drop}
use Rattle.std.proofs.lemmas.Bool.{lt-leb}
use Rattle.std.proofs.Math.Seq.{paste}
use Rattle.std.proofs.lemmas.List.Edits.{drop-paste}
use Rattle.wire.specs.Be.{put}
use Rattle.wire.proofs.BeLaws.{length-put, get_or-put_before}
use Rattle.slot.specs.Blocks.{block, length-block, get_or-block, grid-same, grid-other}
use Rattle.history.specs.Rules.{masters_max}
use Rattle.history.specs.Port.{young}
use Rattle.book.specs.Below.{first-le}
use Rattle.book.specs.Layout.{port_words, master_words, slot_at, master_at, message_at, reads}
use Rattle.ageing.specs.Age.{older_at, older_to, stale, gone, aged_master, aged_to, occupied, Packing, moved, pack_step}

-- ---- a copy of words

-- it reads only words that it has not written
pub paste-source : (p : List ℕ) (to from k n : ℕ) → to + n ≤ from → k < n → from + n ≤ length p
    → slice_index (paste p to (drop from p) k) (from + k) ≡ slice_index (drop from p) k
paste-source p to from k n h l f =
    let d : to + k + (from - to) ≡ from + k = omega arith in
    let s : k ≤ length (drop from p) = omega (arith, length-drop from p) in
    ap (λ (j : ℕ). slice_index (paste p to (drop from p) k) j) (sym d)
    ∙ sym (get_or-drop (to + k) (paste p to (drop from p) k) (from - to) 0)
    ∙ ap (λ (q : List ℕ). slice_index q (from - to)) (drop-paste p to (drop from p) k (omega arith) s)
    ∙ get_or-drop (to + k) p (from - to) 0
    ∙ ap (λ (j : ℕ). slice_index p j) d
    ∙ sym (get_or-drop from p k 0)

-- a copy of a whole block is the block put
pub paste-put : (p : List ℕ) (to from n : ℕ) → from + n ≤ length p → paste p to (drop from p) n ≡ put p to (block p from n)
unfolding put
paste-put p to from n h = ap (λ (k : ℕ). take to p ++ block p from n ++ drop (to + k) p) (sym (length-block p from n h))

-- ---- a master

-- it keeps its length
pub length-older_to : (step n : ℕ) (w : List ℕ) → length (older_to step n w) ≡ length w
unfolding older_at
length-older_to step zero w = refl
length-older_to step (suc n) w = length-set (older_to step n w) _ _ ∙ length-older_to step n w

-- with one message older the words before the slots stay
pub older_at-word : (step k : ℕ) (w : List ℕ) (i : ℕ) → i < 4 → slice_index (older_at step k w) i ≡ slice_index w i
unfolding older_at
older_at-word step k w i h = get_or-set_other w (slot_at (slice_index w 2) k + 2) i _ 0 (λ q. omega arith)

-- and with the first n older
pub older_to-word : (step n : ℕ) (w : List ℕ) (i : ℕ) → i < 4 → slice_index (older_to step n w) i ≡ slice_index w i
older_to-word step zero w i h = refl
older_to-word step (suc n) w i h = older_at-word step n (older_to step n w) i h ∙ older_to-word step n w i h

-- no more go than there are
pub stale-le : (limit : ℕ) (w : List ℕ) → stale limit w ≤ slice_index w 3
unfolding stale
stale-le limit w = first-le (λ k. young reads limit (message_at w k)) (slice_index w 3)

-- of a master that is aged
pub gone-le : (step limit : ℕ) (w : List ℕ) → gone step limit w ≤ slice_index w 3
unfolding gone
gone-le step limit w =
    let v : List ℕ = older_to step (slice_index w 3) w in
    omega (arith, stale-le limit v, older_to-word step (slice_index w 3) w 3 (omega arith))

-- a master aged keeps its length
pub length-aged_master : (step limit : ℕ) (w : List ℕ) → length (aged_master step limit w) ≡ length w
unfolding aged_master
length-aged_master step limit w = simp length-set (length-older_to step (slice_index w 3) w)

-- ---- masters moved

-- a master has no message, by its word of the port
pub is-empty : (p : List ℕ) (i : ℕ) → slice_index p (master_at i + 3) < 1 → occupied p i ≡ false
unfolding occupied
is-empty p i l =
    ap (λ (x : ℕ). nat_le 1 x) (get_or-block p (master_at i) master_words 3 (omega arith)) ∙ lt-leb 1 (slice_index p (master_at i + 3)) l

-- and it has one
pub not-empty : (p : List ℕ) (i : ℕ) → 1 ≤ slice_index p (master_at i + 3) → occupied p i ≡ true
unfolding occupied
not-empty p i l =
    ap (λ (x : ℕ). nat_le 1 x) (get_or-block p (master_at i) master_words 3 (omega arith)) ∙ le-leb 1 (slice_index p (master_at i + 3)) l

-- an empty master is passed over
pub pack-empty : (i : ℕ) (s : Packing) → occupied s.words i ≡ false → s ≡ pack_step i s
unfolding pack_step
pack-empty i s e = simp e

-- any other is put at the next place
pub pack-moves : (i : ℕ) (s : Packing) (w : List ℕ) → occupied s.words i ≡ true → w ≡ (moved i s).words
    → ◌≡◌ {A = Packing} (record { words = w; next = s.next + 1 }) (pack_step i s)
unfolding pack_step
pack-moves i s w e q = simp (e, q)

-- ---- masters aged one after the other

module _ (step limit : ℕ) (p : List ℕ) (size : length p ≡ port_words) where
  -- the words after n masters
  abbrev so_far : ℕ → List ℕ
  so_far n = aged_to step limit n p

  -- and master n of them aged
  abbrev next-block : ℕ → List ℕ
  next-block n = aged_master step limit (block (so_far n) (master_at n) master_words)

  -- it takes as many words as before
  next-size : (n : ℕ) → n < masters_max → length (so_far n) ≡ port_words → length (next-block n) ≡ master_words
  next-size n h e =
      length-aged_master step limit (block (so_far n) (master_at n) master_words) ∙ length-block (so_far n) (master_at n) master_words (omega arith)

  -- the port keeps its length
  pub length-aged_to : (n : ℕ) → n ≤ masters_max → length (so_far n) ≡ port_words
  length-aged_to zero h = size
  length-aged_to (suc n) h =
      let r : length (so_far n) ≡ port_words = length-aged_to n (omega arith) in
      length-put (so_far n) (master_at n) (next-block n) (omega (arith, next-size n (omega arith) r)) ∙ r

  -- the words before the masters stay
  pub aged_to-word : (n j : ℕ) → n ≤ masters_max → j < 4 → slice_index (so_far n) j ≡ slice_index p j
  aged_to-word zero j h l = refl
  aged_to-word (suc n) j h l =
      get_or-put_before (so_far n) (master_at n) (next-block n) j (omega arith) (omega (arith, length-aged_to n (omega arith)))
      ∙ aged_to-word n j (omega arith) l

  -- and the masters still to come
  pub aged-later : (n i : ℕ) → n ≤ i → i < masters_max → block (so_far n) (master_at i) master_words ≡ block p (master_at i) master_words
  aged-later zero i l u = refl
  aged-later (suc n) i l u =
      let r : length (so_far n) ≡ port_words = length-aged_to n (omega arith) in
      grid-other (so_far n) (next-block n) 4 master_words n (next-size n (omega arith) r) (omega arith) i (λ e. omega arith)
      ∙ aged-later n i (omega arith) u

  -- those before are aged
  pub aged-done : (n i : ℕ) → i < n → n ≤ masters_max
      → block (so_far n) (master_at i) master_words ≡ aged_master step limit (block p (master_at i) master_words)
  aged-done zero i l u = absurd (not-suc-le-zero l)
  aged-done (suc n) i l u =
      let r : length (so_far n) ≡ port_words = length-aged_to n (omega arith) in
      let z : length (next-block n) ≡ master_words = next-size n (omega arith) r in
      ⊎_elim
      (λ e. ap (λ (k : ℕ). block (so_far (suc n)) (master_at k) master_words) e
      ∙ grid-same (so_far n) (next-block n) 4 master_words n z (omega arith)
      ∙ ap (aged_master step limit) (aged-later n n (omega arith) (omega arith) ∙ ap (λ (k : ℕ). block p (master_at k) master_words) (sym e)))
      (λ lt. grid-other (so_far n) (next-block n) 4 master_words n z (omega arith) i (λ e. omega arith) ∙ aged-done n i lt (omega arith))
      (eq-or-lt_of_le (le_of_suc-le-suc l))
