-- A port's words aged are its masters aged, those without a message left out, and the tally is how many messages go.
-- Assumes nothing.
use Rattle.std.specs.Prelude.{◌≡◌, ℕ, zero, suc, ◌+◌, ◌^◌, ◌<◌, ◌≤◌, Bool, true, false, cond, leb, List, [], ◌∷◌, ◌++◌, map, length, nat_le, slice_index, slice_index_or, slice_set}
use Rattle.std.proofs.Math.Path.{refl, sym, ap, ap₂}
use Rattle.std.proofs.Common.{◌∙◌, append-nil, arith, length-set, length-append, get_or-set_same}
use Rattle.std.proofs.Math.Seq.{get_or-set_other}
use Rattle.wire.specs.Be.{put}
use Rattle.wire.proofs.BeLaws.{length-put, get_or-put_before}
use Rattle.slot.specs.Blocks.{block, length-block, grid-same, grid-other, block-set-before}
use Rattle.slot.specs.declared.ForeignAnnounceMessage.{ForeignAnnounceMessage}
use Rattle.choice.specs.Choice.{joined}
use Rattle.history.specs.Rules.{masters_max, age_limit}
use Rattle.history.specs.Port.{Master, sift, has_messages, leaving, age_master, age_port}
use Rattle.book.specs.Below.{tab, tab_snoc, tab-ext, tab-push, length-tab, map-tab}
use Rattle.book.specs.Layout.{master_words, port_words, master_at, message_at, master_of, port_of, reads}
use Rattle.book.specs.Rules.{HeldMaster}
use Rattle.ageing.specs.Age.{gone, aged_to, gone_to, Packing, occupied, moved, pack_step, packing, packed, aged_port, gone_port}
use Rattle.ageing.specs.AgeLaws.{length-aged_to, aged_to-word, aged-later, aged-done}
use Rattle.ageing.specs.MasterView.{master-aged, master-gone}

-- ---- one element more at the end

-- of those that pass a test
sift_snoc : {A : Type 0} (f : A → Bool) (xs : List A) (x : A) → sift f (xs ++ (x ∷ [])) ≡ (sift f xs ++ cond (f x) (x ∷ []) [])
sift_snoc f [] x = refl
sift_snoc {A = A} f (y ∷ xs) x = pick (f y) (sift f (xs ++ (x ∷ []))) (sift_snoc f xs x)
  where
    pick : (b : Bool) (r : List A) → r ≡ (sift f xs ++ cond (f x) (x ∷ []) []) → cond b (y ∷ r) r ≡ (cond b (y ∷ sift f xs) (sift f xs) ++ cond (f x) (x ∷ []) [])
    pick true r e = ap (λ (l : List A). y ∷ l) e
    pick false r e = e

-- of lists joined
joined_snoc : {A B : Type 0} (f : A → List B) (xs : List A) (x : A) → length (joined (map f (xs ++ (x ∷ [])))) ≡ length (joined (map f xs)) + length (f x)
joined_snoc f [] x = ap length (append-nil (f x)) ∙ omega arith
joined_snoc f (y ∷ xs) x =
    omega (arith, length-append (f y) (joined (map f (xs ++ (x ∷ [])))), length-append (f y) (joined (map f xs)), joined_snoc f xs x)

-- ---- the masters of a port's words

-- master i
abbrev masters : List ℕ → ℕ → Master ForeignAnnounceMessage
masters p i = master_of (block p (master_at i) master_words)

-- it has a message where its count is not 0
has_word : (w : List ℕ) → has_messages (master_of w) ≡ nat_le 1 (slice_index w 3)
unfolding master_of
has_word w = ap (leb 1) (length-tab (slice_index w 3) (message_at w))

-- what holds after n masters of p have been looked at
record Squeezed (p : List ℕ) (n : ℕ) (s : Packing) : Type 0 where
  below : s.next ≤ n
  size : length s.words ≡ port_words
  word : (j : ℕ) → j < 4 → slice_index s.words j ≡ slice_index p j
  later : (i : ℕ) → n ≤ i → i < masters_max → block s.words (master_at i) master_words ≡ block p (master_at i) master_words
  list : tab s.next (masters s.words) ≡ sift has_messages (tab n (masters p))

module _ (p : List ℕ) (n : ℕ) (s : Packing) (h : n < masters_max) (q : Squeezed p n s) where
  -- the masters that have messages, one more looked at
  one_more : (b : Bool) → occupied s.words n ≡ b → sift has_messages (tab (suc n) (masters p)) ≡ (sift has_messages (tab n (masters p)) ++ cond b (masters p n ∷ []) [])
  unfolding occupied
  one_more b e =
      let here : has_messages (masters p n) ≡ b =
      has_word (block p (master_at n) master_words) ∙ ap (λ (w : List ℕ). leb 1 (slice_index w 3)) (sym (q.later n (omega arith) h)) ∙ e in
      ap (sift has_messages) (tab_snoc n (masters p))
      ∙ sift_snoc has_messages (tab n (masters p)) (masters p n)
      ∙ ap (λ (b : Bool). sift has_messages (tab n (masters p)) ++ cond b (masters p n ∷ []) []) here

  -- an empty master is passed over
  when-empty : occupied s.words n ≡ false → Squeezed p (suc n) s
  when-empty e =
      record {
        below = omega (arith, q.below);
        size = q.size;
        word = q.word;
        later = λ i l u. q.later i (omega arith) u;
        list = q.list ∙ sym (one_more false e ∙ append-nil (sift has_messages (tab n (masters p))));
      }

  -- any other goes to the next place
  when-occupied : occupied s.words n ≡ true → Squeezed p (suc n) (moved n s)
  when-occupied e =
      let b : List ℕ = block s.words (master_at n) master_words in
      let z : length b ≡ master_words = length-block s.words (master_at n) master_words (omega (arith, q.size)) in
      let fits : master_at s.next + master_words ≤ length s.words = omega (arith, q.size, q.below) in
      record {
        below = omega (arith, q.below);
        size = length-put s.words (master_at s.next) b (omega (arith, z)) ∙ q.size;
        word = λ j l. get_or-put_before s.words (master_at s.next) b j (omega arith) (omega arith) ∙ q.word j l;
        later = λ i l u. grid-other s.words b 4 master_words s.next z fits i (λ e. omega (arith, q.below)) ∙ q.later i (omega arith) u;
        list =
            tab-push s.next (s.next + 1) (masters (put s.words (master_at s.next) b)) (masters s.words) (masters p n) refl
            (λ k l. ap master_of (grid-other s.words b 4 master_words s.next z fits k (λ e. omega arith)))
            (ap master_of (grid-same s.words b 4 master_words s.next z fits ∙ q.later n (omega arith) h))
            ∙ ap (λ (l : List (Master ForeignAnnounceMessage)). l ++ (masters p n ∷ [])) q.list
            ∙ sym (one_more true e);
      }

  -- so either way
  next_squeezed : Squeezed p (suc n) (pack_step n s)
  unfolding pack_step
  next_squeezed = pick (occupied s.words n) when-empty when-occupied refl
    where
      pick : (b : Bool) → (occupied s.words n ≡ false → Squeezed p (suc n) s) → (occupied s.words n ≡ true → Squeezed p (suc n) (moved n s))
          → occupied s.words n ≡ b → Squeezed p (suc n) (cond b (moved n s) s)
      pick true f g e = g e
      pick false f g e = f e

-- after any number of masters
squeeze : (p : List ℕ) (n : ℕ) → length p ≡ port_words → n ≤ masters_max → Squeezed p n (packing n p)
squeeze p zero size h = record { below = omega arith; size = size; word = λ j l. refl; later = λ i l u. refl; list = refl }
squeeze p (suc n) size h = next_squeezed p n (packing n p) (omega arith) (squeeze p n size (omega arith))

-- ---- a port aged

-- it keeps its length
pub length-aged_port : (step : ℕ) (p : List ℕ) → length p ≡ port_words → slice_index p 1 ≤ masters_max → length (aged_port step p) ≡ port_words
unfolding aged_port packed
length-aged_port step p size few =
    let n : ℕ = slice_index_or p 1 0 in
    let a : List ℕ = aged_to step (age_limit (slice_index p 0)) n p in
    let w : slice_index_or a 1 0 ≡ n = aged_to-word step (age_limit (slice_index p 0)) p size n 1 few (omega arith) in
    length-set (packing (slice_index a 1) a).words 1 (packing (slice_index a 1) a).next
    ∙ (squeeze a (slice_index a 1) (length-aged_to step (age_limit (slice_index p 0)) p size n few) (omega arith)).size

module _
    (step : ℕ) (p : List ℕ)
    (size : length p ≡ port_words)
    (few : slice_index_or p 1 0 ≤ masters_max)
    (held : (i : ℕ) → i < slice_index p 1 → HeldMaster (age_limit (slice_index p 0)) (block p (master_at i) master_words))
    (fits : age_limit (slice_index p 0) + step ≤ 2 ^ 64)
  where
    -- the age from which on a message goes
    abbrev limit : ℕ
    limit = age_limit (slice_index p 0)

    -- the words of master i
    fill : (i : ℕ) → i < slice_index p 1 → length (block p (master_at i) master_words) ≡ master_words
    fill i h = length-block p (master_at i) master_words (omega arith)

    -- the words of a port aged are that port after its turn
    pub port-aged : port_of (aged_port step p) ≡ (age_port reads step (port_of p)).port
    unfolding port_of aged_port packed age_port
    port-aged =
        let n : ℕ = slice_index_or p 1 0 in
        let a : List ℕ = aged_to step limit n p in
        let word : (j : ℕ) → j < 4 → slice_index a j ≡ slice_index_or p j 0 = λ j l. aged_to-word step limit p size n j few l in
        let m : ℕ = slice_index_or a 1 0 in
        let s : Packing = packing m a in
        let q : Squeezed a m s = squeeze a m (length-aged_to step limit p size n few) (omega (arith, word 1 (omega arith))) in
        let t : List ℕ = slice_set s.words 1 s.next in
        let interval : slice_index_or t 0 0 ≡ slice_index_or p 0 0 = get_or-set_other s.words 1 0 s.next 0 (λ e. omega arith) ∙ q.word 0 (omega arith) ∙ word 0 (omega arith) in
        let list : tab (slice_index t 1) (masters t) ≡ sift has_messages (map (age_master reads step limit) (tab n (masters p))) =
        ap (λ (k : ℕ). tab k (masters t)) (get_or-set_same s.words 1 s.next 0 (omega (arith, q.size)))
        ∙ tab-ext s.next (masters t) (masters s.words) (λ i l. ap master_of (block-set-before s.words 1 s.next (master_at i) master_words (omega arith)))
        ∙ q.list
        ∙ ap (λ (k : ℕ). sift has_messages (tab k (masters a))) (word 1 (omega arith))
        ∙ ap (sift has_messages)
        (tab-ext n (masters a) (λ i. age_master reads step limit (masters p i))
        (λ i l. ap master_of (aged-done step limit p size n i l few) ∙ master-aged step limit (block p (master_at i) master_words) (fill i l) (held i l) fits)
        ∙ sym (map-tab (age_master reads step limit) n (masters p))) in
        ap₂ (λ (x : ℕ) (Ms : List (Master ForeignAnnounceMessage)). record { interval = x; masters = Ms }) interval list

    -- the messages of a master that go
    out : Master ForeignAnnounceMessage → List ForeignAnnounceMessage
    out M = leaving reads step limit M.messages

    -- how many messages of the first n masters go
    gone-to : (n : ℕ) → n ≤ slice_index p 1 → gone_to step limit n p ≡ length (joined (map out (tab n (masters p))))
    unfolding out
    gone-to zero h = refl
    gone-to (suc n) h =
        ap₂ (λ (x y : ℕ). x + y) (gone-to n (omega arith))
        (ap (gone step limit) (aged-later step limit p size n n (omega arith) (omega arith))
        ∙ master-gone step limit (block p (master_at n) master_words) (fill n (omega arith)) (held n (omega arith)) fits)
        ∙ sym (ap (λ (l : List (Master ForeignAnnounceMessage)). length (joined (map out l))) (tab_snoc n (masters p)) ∙ joined_snoc out (tab n (masters p)) (masters p n))

    -- and of all of them
    pub port-gone : gone_port step p ≡ length (age_port reads step (port_of p)).aged_out
    unfolding port_of gone_port age_port out
    port-gone = gone-to (slice_index p 1) (omega arith)
