-- A message taken into a port's words is the message taken into its lists, and the refusals by the words are those by the lists.
-- Assumes nothing.
use Prim.Native.Nat.{ℕ, zero, suc, ◌+◌, ◌-◌, ◌≤◌, ◌<◌}
use Rattle.std.specs.Prelude.{◌≡◌, Bool, true, false, cond, not, ◌&&◌, ◌||◌, ltb, leb, set}
use Rattle.std.proofs.Math.Path.{refl, ap}
use Rattle.std.proofs.Common.{sym, ap₂, ◌∙◌, arith, not-suc-le-zero, lt-ltb, le-ltb, le-leb, leb-false, get_or-set_same, get_or-set_other}
use mathlib.Core.List.{List, [], ◌∷◌, ◌++◌}
use Rattle.std.proofs.Math.Logic.{⊎_elim}
use Rattle.std.proofs.lemmas.Bool.{lt-leb}
use Rattle.std.proofs.Math.Dec.{leb-suc-suc}
use Rattle.std.proofs.Math.ListN.{length, get_or, length-set}
use Rattle.wire.specs.Be.{put}
use Rattle.wire.proofs.BeLaws.{length-put, get_or-put_before}
use Rattle.header.specs.declared.PortIdentity.{PortIdentity}
use Rattle.same.specs.Same.{same_port, same-port-eq}
use Rattle.slot.specs.Blocks.{block, length-block, grid-same, grid-other, block-set-before, le-or-lt}
use Rattle.slot.specs.Slot.{Whole}
use Rattle.slot.specs.declared.ForeignAnnounceMessage.{ForeignAnnounceMessage}
use Rattle.history.specs.Rules.{masters_max, messages_max, in_step}
use Rattle.history.specs.Port.{Master, Port, sender, sequence, newest, list_of, known, with, push, put_out, admit, holding, is_in_order}
use Rattle.book.specs.Below.{first, first-before, first-at, tab, tab-ext, tab-push, length-tab}
use Rattle.book.specs.Layout.{master_words, port_words, master_at, identity_of, message_at, master_of, port_of, reads}
use Rattle.store.specs.Search.{named, place, place-le}
use Rattle.refusal.specs.Refusal.{last_of, order_at, room_refusal}
use Rattle.admission.specs.Admit.{appended, begun, master_for, evicted_at, registered}
use Rattle.admission.proofs.MasterView.{appended_view, begun_view, puts_out_view, length-appended, length-begun}

-- ---- on the values of a function

module _ (src : PortIdentity) where
  -- whose identity this is
  is : Master ForeignAnnounceMessage → Bool
  is M = same_port M.source src

  admit-at : (m : ForeignAnnounceMessage) (n i : ℕ) (g g' : ℕ → Master ForeignAnnounceMessage) → i < n → ((k : ℕ) → k < i → is (g k) ≡ false) → is (g i) ≡ true
      → g' i ≡ with (g i) (push (g i).messages m) → ((k : ℕ) → (i ≡ k → ⊥) → g' k ≡ g k) → tab n g' ≡ admit src m (tab n g)
  unfolding is
  admit-at m zero i g g' h b t e o = absurd (not-suc-le-zero h)
  admit-at m (suc n) zero g g' h b t e o =
      simp (t, e) (ap (λ (l : List (Master ForeignAnnounceMessage)). with (g zero) (push (g zero).messages m) ∷ l) (tab-ext n (λ k. g' (suc k)) (λ k. g (suc k)) (λ k l. o (suc k) (λ q. omega arith))))
  admit-at m (suc n) (suc i) g g' h b t e o =
      simp (b zero (omega arith), o zero (λ q. omega arith))
      (ap (λ (l : List (Master ForeignAnnounceMessage)). g zero ∷ l)
      (admit-at m n i (λ k. g (suc k)) (λ k. g' (suc k)) (omega arith) (λ k l. b (suc k) (omega arith)) t e (λ k d. o (suc k) (λ q. d (omega arith)))))

  admit-none : (m : ForeignAnnounceMessage) (n : ℕ) (g : ℕ → Master ForeignAnnounceMessage) → ((k : ℕ) → k < n → is (g k) ≡ false)
      → (tab n g ++ (record { source = src; messages = m ∷ [] } ∷ [])) ≡ admit src m (tab n g)
  unfolding is
  admit-none m zero g b = refl
  admit-none m (suc n) g b =
      simp (b zero (omega arith)) (ap (λ (l : List (Master ForeignAnnounceMessage)). g zero ∷ l) (admit-none m n (λ k. g (suc k)) (λ k l. b (suc k) (omega arith))))

  -- the first of an identity is found in the list where the search finds it
  list_at : (n i : ℕ) (g : ℕ → Master ForeignAnnounceMessage) → i < n → ((k : ℕ) → k < i → is (g k) ≡ false) → is (g i) ≡ true → list_of src (tab n g) ≡ (g i).messages
  unfolding is
  list_at zero i g h b t = absurd (not-suc-le-zero h)
  list_at (suc n) zero g h b t = simp t
  list_at (suc n) (suc i) g h b t = simp (b zero (omega arith)) (list_at n i (λ k. g (suc k)) (omega arith) (λ k l. b (suc k) (omega arith)) t)

  list-none : (n : ℕ) (g : ℕ → Master ForeignAnnounceMessage) → ((k : ℕ) → k < n → is (g k) ≡ false) → list_of src (tab n g) ≡ []
  unfolding is
  list-none zero g b = refl
  list-none (suc n) g b = simp (b zero (omega arith)) (list-none n (λ k. g (suc k)) (λ k l. b (suc k) (omega arith)))

  known-tab : (n : ℕ) (g : ℕ → Master ForeignAnnounceMessage) → known src (tab n g) ≡ ltb (first n (λ i. same_port (g i).source src)) n
  known-tab zero g = refl
  known-tab (suc n) g = pick (same_port (g zero).source src) (first n (λ i. same_port (g (suc i)).source src)) (known src (tab n (λ k. g (suc k)))) (known-tab n (λ k. g (suc k)))
    where
      pick : (b : Bool) (f : ℕ) (r : Bool) → r ≡ ltb f n → (b || r) ≡ ltb (cond b zero (suc f)) (suc n)
      pick true f r e = sym (lt-ltb zero (suc n) (omega arith))
      pick false f r e = e ∙ sym (leb-suc-suc (suc f) n)

newest-tab : (n : ℕ) (f : ℕ → ForeignAnnounceMessage) → newest (f zero) (tab n (λ k. f (suc k))) ≡ f n
newest-tab zero f = refl
newest-tab (suc n) f = newest-tab n (λ k. f (suc k))

order-tab : (n : ℕ) (f : ℕ → ForeignAnnounceMessage) (m : ForeignAnnounceMessage) → 1 ≤ n → is_in_order reads (tab n f) m ≡ in_step (sequence reads (f (n - 1))) (sequence reads m)
order-tab zero f m h = absurd (not-suc-le-zero h)
order-tab (suc n) f m h = ap (λ (x : ForeignAnnounceMessage). in_step (sequence reads x) (sequence reads m)) (newest-tab n f ∙ ap f (sym (suc-sub n)))
  where
    suc-sub : (n : ℕ) → suc n - 1 ≡ n
    suc-sub n = omega arith

-- ---- a port with the block of master i put, and its word 1, the count, set besides

module _ (p w : List ℕ) (i : ℕ) (size : length p ≡ port_words) (block_size : length w ≡ master_words) (below : i < masters_max) where
  put-fits : master_at i + master_words ≤ length p
  put-fits = omega arith

  put_word : (j : ℕ) → j < 4 → get_or (put p (master_at i) w) j 0 ≡ get_or p j 0
  put_word j h = get_or-put_before p (master_at i) w j (omega arith) (omega arith)

  put_same : master_of (block (put p (master_at i) w) (master_at i) master_words) ≡ master_of w
  put_same = ap master_of (grid-same p w 4 master_words i block_size put-fits)

  put_other : (k : ℕ) → (i ≡ k → ⊥)
      → master_of (block (put p (master_at i) w) (master_at k) master_words) ≡ master_of (block p (master_at k) master_words)
  put_other k ne = ap master_of (grid-other p w 4 master_words i block_size put-fits k ne)

  count_set : (v : ℕ) → get_or (set (put p (master_at i) w) 1 v) 1 0 ≡ v
  count_set v = get_or-set_same (put p (master_at i) w) 1 v 0 (omega (arith, length-put p (master_at i) w (omega arith)))

  count-other : (v j : ℕ) → j < 4 → (j ≡ 1 → ⊥) → get_or (set (put p (master_at i) w) 1 v) j 0 ≡ get_or p j 0
  count-other v j h ne = get_or-set_other (put p (master_at i) w) 1 j v 0 ne ∙ put_word j h

  count-block : (v k : ℕ) → block (set (put p (master_at i) w) 1 v) (master_at k) master_words ≡ block (put p (master_at i) w) (master_at k) master_words
  count-block v k = block-set-before (put p (master_at i) w) 1 v (master_at k) master_words (omega arith)

port-eq : {a a' : ℕ} {ms ms' : List (Master ForeignAnnounceMessage)} → a ≡ a' → ms ≡ ms'
    → ◌≡◌ {A = Port ForeignAnnounceMessage} (record { interval = a; masters = ms }) (record { interval = a'; masters = ms' })
port-eq p q = λ i. record { interval = p i; masters = q i }

-- ---- the message's master in a port

-- what is known of a port's words
pub record Usual (p : List ℕ) : Type 0 where
  pub size : length p ≡ port_words
  pub some : (i : ℕ) → i < get_or p 1 0 → 1 ≤ get_or (block p (master_at i) master_words) 3 0
  pub few : (i : ℕ) → i < get_or p 1 0 → get_or (block p (master_at i) master_words) 3 0 ≤ messages_max

module _ (p : List ℕ) (src : PortIdentity) where
  masters_of : ℕ → Master ForeignAnnounceMessage
  masters_of i = master_of (block p (master_at i) master_words)

  before-place : (k : ℕ) → k < place p src → is src (masters_of k) ≡ false
  unfolding place is masters_of master_of
  before-place k h = first-before (λ i. named src (block p (master_at i) master_words)) (get_or p 1 0) k h

  at_place : place p src < get_or p 1 0 → is src (masters_of (place p src)) ≡ true
  unfolding place is masters_of master_of
  at_place h = first-at (λ i. named src (block p (master_at i) master_words)) (get_or p 1 0) h

  known_view : known src (port_of p).masters ≡ ltb (place p src) (get_or p 1 0)
  unfolding port_of place master_of
  known_view = known-tab src (get_or p 1 0) (λ i. master_of (block p (master_at i) master_words))

  list-known : place p src < get_or p 1 0 → list_of src (port_of p).masters ≡ (master_of (block p (master_at (place p src)) master_words)).messages
  unfolding port_of masters_of
  list-known h = list_at src (get_or p 1 0) (place p src) masters_of h before-place (at_place h)

  list_new : get_or p 1 0 ≤ place p src → list_of src (port_of p).masters ≡ []
  unfolding port_of masters_of
  list_new h = list-none src (get_or p 1 0) masters_of (λ k l. before-place k (omega arith))

-- ---- the refusals

-- by the last message of a master
order-last : (m : ForeignAnnounceMessage) (w : List ℕ) → 1 ≤ get_or w 3 0 → is_in_order reads (master_of w).messages m ≡ in_step (sequence reads (last_of w)) (sequence reads m)
unfolding master_of
order-last m w h = order-tab (get_or w 3 0) (message_at w) m h

pub order_view : (p : List ℕ) (m : ForeignAnnounceMessage) → Usual p
    → order_at p (place p (sender reads m)) (sequence reads m) ≡ is_in_order reads (list_of (sender reads m) (port_of p).masters) m
unfolding order_at
order_view p m u =
    let src = sender reads m in
    ⊎_elim
    (λ l. rw (le-leb (get_or p 1 0) (place p src) l) (sym (ap (λ (ms : List ForeignAnnounceMessage). is_in_order reads ms m) (list_new p src l))))
    (λ l. rw (lt-leb (get_or p 1 0) (place p src) l) (sym (ap (λ (ms : List ForeignAnnounceMessage). is_in_order reads ms m) (list-known p src l) ∙ order-last m (block p (master_at (place p src)) master_words) (u.some (place p src) l))))
    (le-or-lt (get_or p 1 0) (place p src))

pub room_view : (p : List ℕ) (src : PortIdentity)
    → room_refusal (place p src) (get_or p 1 0) ≡ cond (not (known src (port_of p).masters) && leb masters_max (length (port_of p).masters)) 12 0
unfolding room_refusal port_of
room_view p src =
    rw (known_view p src, length-tab (get_or p 1 0) (λ i. master_of (block p (master_at i) master_words)))
    (⊎_elim (λ l. rw (le-leb masters_max (get_or p 1 0) l, le-ltb (get_or p 1 0) masters_max l) (full (ltb (place p src) (get_or p 1 0))))
    (λ l. rw (lt-leb masters_max (get_or p 1 0) l, lt-ltb (get_or p 1 0) masters_max l) (room (ltb (place p src) (get_or p 1 0)))) (le-or-lt masters_max (get_or p 1 0)))
  where
    full : (b : Bool) → ◌≡◌ {A = ℕ} (cond b 0 12) (cond (not b && true) 12 0)
    full true = refl
    full false = refl

    room : (b : Bool) → ◌≡◌ {A = ℕ} (cond b 0 0) (cond (not b && false) 12 0)
    room true = refl
    room false = refl

-- so where it is not refused 12, there is room
pub place-below : (p : List ℕ) (src : PortIdentity) → get_or p 1 0 ≤ masters_max
    → (not (known src (port_of p).masters) && leb masters_max (length (port_of p).masters)) ≡ false → place p src < masters_max
unfolding port_of
place-below p src few e =
    let n = get_or p 1 0 in
    let f : (not (ltb (place p src) n) && leb masters_max n) ≡ false =
    sym (ap₂ (λ (b : Bool) (k : ℕ). not b && leb masters_max k) (known_view p src) (length-tab n (λ i. master_of (block p (master_at i) master_words)))) ∙ e in
    ⊎_elim (λ l. omega (arith, place-le p src, leb-false masters_max n (sym (ap (λ (b : Bool). not b && leb masters_max n) (le-ltb (place p src) n l)) ∙ f)))
    (λ l. omega arith) (le-or-lt n (place p src))

-- ---- the message taken in

module _ (p : List ℕ) (m : ForeignAnnounceMessage) (u : Usual p) (room : place p (sender reads m) < masters_max) (whole : Whole m) where
  at : ℕ
  at = place p (sender reads m)

  old : List ℕ
  old = master_for p m

  old-size : length old ≡ master_words
  unfolding old at
  old-size = length-block p (master_at at) master_words (omega (arith, u.size))

  same-sender : at < get_or p 1 0 → identity_of old ≡ sender reads m
  unfolding old at is masters_of master_of
  same-sender l = same-port-eq (identity_of old) (sender reads m) (at_place p (sender reads m) l)

  old-known : at < get_or p 1 0 → port_of (registered p m) ≡ holding (port_of p) (admit (sender reads m) m (port_of p).masters)
  unfolding old at registered masters_of port_of
  old-known l =
      let w : List ℕ = appended old m in
      let s : length w ≡ master_words = length-appended old m old-size in
      let src = sender reads m in
      let g : ℕ → Master ForeignAnnounceMessage = λ i. master_of (block p (master_at i) master_words) in
      let g' : ℕ → Master ForeignAnnounceMessage = λ i. master_of (block (put p (master_at at) w) (master_at i) master_words) in
      rw (lt-ltb at (get_or p 1 0) l)
      (port-eq (put_word p w at u.size s room 0 (omega arith))
      (ap (λ (n : ℕ). tab n g') (put_word p w at u.size s room 1 (omega arith))
      ∙ admit-at src m (get_or p 1 0) at g g' l (before-place p src) (at_place p src l)
      (put_same p w at u.size s room ∙ appended_view old m old-size (u.few at l) whole (same-sender l))
      (put_other p w at u.size s room)))

  old_new : get_or p 1 0 ≤ at → port_of (registered p m) ≡ holding (port_of p) (admit (sender reads m) m (port_of p).masters)
  unfolding old at registered masters_of port_of
  old_new l =
      let src = sender reads m in
      let e : at ≡ get_or p 1 0 = omega (arith, place-le p src) in
      let w : List ℕ = begun old src m in
      let s : length w ≡ master_words = length-begun old src m old-size in
      let n : ℕ = get_or p 1 0 + 1 in
      let g : ℕ → Master ForeignAnnounceMessage = λ i. master_of (block p (master_at i) master_words) in
      let g' : ℕ → Master ForeignAnnounceMessage = λ i. master_of (block (set (put p (master_at at) w) 1 n) (master_at i) master_words) in
      rw (le-ltb at (get_or p 1 0) l)
      (port-eq (count-other p w at u.size s room n 0 (omega arith) (λ q. omega arith))
      (tab-push (get_or p 1 0) (get_or (set (put p (master_at at) w) 1 n) 1 0) g' g (record { source = src; messages = m ∷ [] }) (count_set p w at u.size s room n)
      (λ k h. ap master_of (count-block p w at u.size s room n k) ∙ put_other p w at u.size s room k (λ q. omega arith))
      (ap g' (sym e) ∙ ap master_of (count-block p w at u.size s room n at) ∙ put_same p w at u.size s room ∙ begun_view old src m refl whole.header.typed.port whole)
      ∙ admit-none src m (get_or p 1 0) g (λ k h. before-place p src k (omega arith))))

  pub registered_view : port_of (registered p m) ≡ holding (port_of p) (admit (sender reads m) m (port_of p).masters)
  unfolding at
  registered_view = ⊎_elim old_new old-known (le-or-lt (get_or p 1 0) at)

  pub length-registered : length (registered p m) ≡ port_words
  unfolding old at registered
  length-registered =
      let a : length (put p (master_at at) (appended old m)) ≡ port_words =
      length-put p (master_at at) (appended old m) (omega (arith, u.size, length-appended old m old-size)) ∙ u.size in
      let b : length (put p (master_at at) (begun old (sender reads m) m)) ≡ port_words =
      length-put p (master_at at) (begun old (sender reads m) m) (omega (arith, u.size, length-begun old (sender reads m) m old-size)) ∙ u.size in
      ⊎_elim (λ l. rw (le-ltb at (get_or p 1 0) l) (simp length-set b)) (λ l. rw (lt-ltb at (get_or p 1 0) l) a) (le-or-lt (get_or p 1 0) at)

-- how many are put out
pub evicted_view : (p : List ℕ) (m : ForeignAnnounceMessage) → evicted_at p m ≡ length (put_out (list_of (sender reads m) (port_of p).masters))
unfolding evicted_at put_out
evicted_view p m =
    let src = sender reads m in
    ⊎_elim (λ l. rw (le-ltb (place p src) (get_or p 1 0) l) (sym (ap (λ (ms : List ForeignAnnounceMessage). length (put_out ms)) (list_new p src l))))
    (λ l. rw (lt-ltb (place p src) (get_or p 1 0) l) (puts_out_view (master_for p m) ∙ sym (ap (λ (ms : List ForeignAnnounceMessage). length (put_out ms)) (list-known p src l))))
    (le-or-lt (get_or p 1 0) (place p src))
