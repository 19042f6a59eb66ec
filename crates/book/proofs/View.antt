-- The check of the words is the definition: a store's words are sound exactly when the book that they hold is.
-- Assumes nothing.
use Prim.Native.Nat.{ℕ, zero, suc, ◌+◌, ◌-◌, ◌≤◌, ◌<◌}
use Rattle.std.specs.Prelude.{◌≡◌, refl, true, false, not, ◌&&◌, ◌||◌, cond, List, ltb, length}
use Rattle.std.proofs.Math.Path.{sym, ap}
use Rattle.std.proofs.Common.{◌∙◌, ⊎_elim, arith, not-suc-le-zero, zero-add, sub-one}
use Rattle.std.proofs.Math.Bool.{Bool, and-true, and-false, and_assoc}
use borrow.Author.Tests.{eq-eqb, eqb-true, lt-ltb, lt-leb, not-true}
use Rattle.std.proofs.Math.Dec.{eqb, eqb-suc-zero, leb-suc-suc}
use Rattle.std.proofs.Math.ListN.{get_or}
use Rattle.wire.specs.Below.{both}
use Rattle.header.specs.declared.PortIdentity.{PortIdentity}
use Rattle.same.specs.Same.{same_port, same-port-refl}
use Rattle.slot.specs.Blocks.{block, get_or-block, le-or-lt}
use Rattle.slot.specs.declared.ForeignAnnounceMessage.{ForeignAnnounceMessage}
use Rattle.history.specs.Rules.{listed_max, age_limit}
use Rattle.history.specs.Port.{Master, accepts, is_in}
use Rattle.history.specs.Sound.{every, distinct, sources, holdable, follows, sound_after, sound_messages, sound_master, sound_port, sound_book}
use Rattle.store.specs.Below.{all, all-at, all-shift, all-intro, all-ext, all-and, bool_eq, first, first-before, first_found, tab, tab-ext, length-tab, map-tab}
use Rattle.store.specs.Layout.{master_words, port_words, head_words, master_at, port_at, identity_of, message_at, master_of, port_of, site_of, book_of, reads}
use Rattle.store.specs.Search.{place, accepts_head}
use Rattle.book.specs.Rules.{rule_at, master_sound, placed, port_sound, port_test, sound_words}

-- ---- on the values of a function

every-tab : {A : Type 0} (f : A → Bool) (n : ℕ) (g : ℕ → A) → every f (tab n g) ≡ all n (λ k. f (g k))
every-tab f zero g = refl
every-tab f (suc n) g = ap (λ (b : Bool). f (g zero) && b) (every-tab f n (λ k. g (suc k))) ∙ sym (all-shift (λ k. f (g k)) n)

is_in-tab : (x n : ℕ) (g : ℕ → ℕ) → is_in x (tab n g) ≡ ltb (first n (λ i. eqb (g i) x)) n
is_in-tab x zero g = refl
is_in-tab x (suc n) g = pick (eqb (g zero) x) (first n (λ i. eqb (g (suc i)) x)) (is_in x (tab n (λ k. g (suc k)))) (is_in-tab x n (λ k. g (suc k)))
  where
    pick : (b : Bool) (f : ℕ) (r : Bool) → r ≡ ltb f n → (b || r) ≡ ltb (cond b zero (suc f)) (suc n)
    pick true f r e = sym (lt-ltb zero (suc n) (omega arith))
    pick false f r e = e ∙ sym (leb-suc-suc (suc f) n)

-- the rule of message k, of any messages
module _ (src : PortIdentity) (limit : ℕ) where
  rule : (ℕ → ForeignAnnounceMessage) → ℕ → Bool
  rule f k = holdable reads src limit (f k) && (eqb k 0 || follows reads (f (k - 1)) (f k))

  rule-next : (f : ℕ → ForeignAnnounceMessage) (k : ℕ) → rule f (suc k) ≡ (holdable reads src limit (f (suc k)) && follows reads (f k) (f (suc k)))
  unfolding rule
  rule-next f k = simp (eqb-suc-zero k, sub-one)

  rule-first : (f : ℕ → ForeignAnnounceMessage) → rule f 0 ≡ holdable reads src limit (f 0)
  unfolding rule
  rule-first f = and-true (holdable reads src limit (f 0))

  after-tab : (n : ℕ) (f : ℕ → ForeignAnnounceMessage) → sound_after reads src limit (f zero) (tab n (λ k. f (suc k))) ≡ all n (λ k. rule f (suc k))
  after-tab zero f = refl
  after-tab (suc n) f =
      ap (λ (b : Bool). (holdable reads src limit (f 1) && follows reads (f 0) (f 1)) && b)
      (after-tab n (λ k. f (suc k))
      ∙ all-ext (λ k. rule (λ j. f (suc j)) (suc k)) (λ k. rule f (suc (suc k))) n (λ k l. rule-next (λ j. f (suc j)) k ∙ sym (rule-next f (suc k))))
      ∙ ap (λ (b : Bool). b && all n (λ k. rule f (suc (suc k)))) (sym (rule-next f 0))
      ∙ sym (all-shift (λ k. rule f (suc k)) n)

  messages-tab : (n : ℕ) (f : ℕ → ForeignAnnounceMessage) → sound_messages reads src limit (tab n f) ≡ all n (rule f)
  messages-tab zero f = refl
  messages-tab (suc n) f =
      ap (λ (b : Bool). holdable reads src limit (f 0) && b) (after-tab n f)
      ∙ ap (λ (b : Bool). b && all n (λ k. rule f (suc k))) (sym (rule-first f))
      ∙ sym (all-shift (rule f) n)

-- identities: no later one is an earlier one, just where each is the first of its kind
module _ (g : ℕ → PortIdentity) where
  names : ℕ → ℕ → Bool
  names j i = same_port (g i) (g j)

  Apart : ℕ → Type 0
  Apart n = (i j : ℕ) → i < j → j < n → names j i ≡ false

  apart-first : (n : ℕ) → all n (λ j. eqb (first n (names j)) j) ≡ true → Apart n
  unfolding Apart
  apart-first n e i j l h =
      let f : first n (names j) ≡ j = eqb-true (first n (names j)) j (all-at (λ j. eqb (first n (names j)) j) n j h e) in
      first-before (names j) n i (omega arith)

  first-apart : (n : ℕ) → Apart n → all n (λ j. eqb (first n (names j)) j) ≡ true
  unfolding Apart names
  first-apart n d =
      all-intro (λ j. eqb (first n (names j)) j) n
      (λ j h. eq-eqb (first n (names j)) j (first_found (names j) n j h (λ i l. d i j l h) (same-port-refl (g j))))

-- what a later identity must not be
other : PortIdentity → PortIdentity → Bool
other x y = not (same_port x y)

distinct_apart : (n : ℕ) (g : ℕ → PortIdentity) → Apart g n → distinct (tab n g) ≡ true
unfolding Apart names other
distinct_apart zero g d = refl
distinct_apart (suc n) g d =
    let e : every (other (g 0)) (tab n (λ k. g (suc k))) ≡ true =
    every-tab (other (g 0)) n (λ k. g (suc k))
    ∙ all-intro (λ k. other (g 0) (g (suc k))) n (λ k l. ap not (d 0 (suc k) (omega arith) (omega arith))) in
    simp (e, distinct_apart n (λ k. g (suc k)) (λ i j l h. d (suc i) (suc j) (omega arith) (omega arith)))

apart_distinct : (n : ℕ) (g : ℕ → PortIdentity) → distinct (tab n g) ≡ true → Apart g n
unfolding Apart names other
apart_distinct zero g e i j l h = absurd (not-suc-le-zero h)
apart_distinct (suc n) g e i zero l h = absurd (not-suc-le-zero l)
apart_distinct (suc n) g e zero (suc j) l h =
    let t = both (every (other (g 0)) (tab n (λ k. g (suc k)))) (distinct (tab n (λ k. g (suc k)))) e in
    not-true (same_port (g 0) (g (suc j)))
    (all-at (λ k. other (g 0) (g (suc k))) n j (omega arith) (sym (every-tab (other (g 0)) n (λ k. g (suc k))) ∙ t.0))
apart_distinct (suc n) g e (suc i) (suc j) l h =
    let t = both (every (other (g 0)) (tab n (λ k. g (suc k)))) (distinct (tab n (λ k. g (suc k)))) e in
    apart_distinct n (λ k. g (suc k)) t.1 i j (omega arith) (omega arith)

distinct-tab : (n : ℕ) (g : ℕ → PortIdentity) → all n (λ j. eqb (first n (names g j)) j) ≡ distinct (tab n g)
distinct-tab n g =
    bool_eq (all n (λ j. eqb (first n (names g j)) j)) (distinct (tab n g)) (λ e. distinct_apart n g (apart-first g n e)) (λ e. first-apart g n (apart_distinct n g e))

-- ---- on the words

-- the head accepts whom the site accepts
pub accepts_view : (s : List ℕ) → get_or s 3 0 ≤ listed_max → (clock : ℕ) → accepts_head (block s 0 head_words) clock ≡ accepts (site_of s) clock
unfolding accepts_head accepts site_of
accepts_view s few clock =
    let head : List ℕ = block s 0 head_words in
    let word : (j : ℕ) → j < head_words → get_or head j 0 ≡ get_or s j 0 = λ j h. get_or-block s 0 head_words j h ∙ ap (λ (k : ℕ). get_or s k 0) (zero-add j) in
    let listed : ltb (first (get_or head 3 0) (λ i. eqb (get_or head (4 + i) 0) clock)) (get_or head 3 0) ≡ is_in clock (tab (get_or s 3 0) (λ i. get_or s (4 + i) 0)) =
    sym (is_in-tab clock (get_or head 3 0) (λ i. get_or head (4 + i) 0))
    ∙ ap (λ (n : ℕ). is_in clock (tab n (λ i. get_or head (4 + i) 0))) (word 3 (omega arith))
    ∙ ap (is_in clock) (tab-ext (get_or s 3 0) (λ i. get_or head (4 + i) 0) (λ i. get_or s (4 + i) 0) (λ i l. word (4 + i) (omega arith))) in
    ap (λ (x : ℕ). eqb x 0 || ltb (first (get_or head 3 0) (λ i. eqb (get_or head (4 + i) 0) clock)) (get_or head 3 0)) (word 2 (omega arith))
    ∙ ap (λ (b : Bool). eqb (get_or s 2 0) 0 || b) listed

-- our clock stands in the head
pub own_view : (s : List ℕ) → get_or (block s 0 head_words) 1 0 ≡ (site_of s).own
unfolding site_of
own_view s = get_or-block s 0 head_words 1 (omega arith)

module _ (s : List ℕ) where
  master_view : get_or s 3 0 ≤ listed_max → (limit : ℕ) (w : List ℕ) → master_sound (block s 0 head_words) limit w ≡ sound_master reads (site_of s) limit (master_of w)
  unfolding master_sound sound_master master_of rule_at rule
  master_view few limit w =
      simp (length-tab (get_or w 3 0) (message_at w), messages-tab (identity_of w) limit (get_or w 3 0) (message_at w), accepts_view s few (get_or w 0 0), own_view s)

  -- the masters of a port
  masters : List ℕ → ℕ → Master ForeignAnnounceMessage
  masters p i = master_of (block p (master_at i) master_words)

  placed_view : get_or s 3 0 ≤ listed_max → (p : List ℕ)
      → all (get_or p 1 0) (placed (block s 0 head_words) p)
      ≡ (distinct (sources (tab (get_or p 1 0) (masters p))) && every (sound_master reads (site_of s) (age_limit (get_or p 0 0))) (tab (get_or p 1 0) (masters p)))
  unfolding placed place names master_of masters
  placed_view few p =
      let n = get_or p 1 0 in
      let limit = age_limit (get_or p 0 0) in
      let ids : ℕ → PortIdentity = λ j. identity_of (block p (master_at j) master_words) in
      let alone : ℕ → Bool = λ j. eqb (first n (names ids j)) j in
      let well : ℕ → Bool = λ j. master_sound (block s 0 head_words) limit (block p (master_at j) master_words) in
      let src : Master ForeignAnnounceMessage → PortIdentity = λ M. M.source in
      all-and alone well n
      ∙ ap (λ (b : Bool). b && all n well) (distinct-tab n ids ∙ ap distinct (sym (map-tab src n (masters p))))
      ∙ ap (λ (b : Bool). distinct (sources (tab n (masters p))) && b)
      (all-ext well (λ j. sound_master reads (site_of s) limit (masters p j)) n (λ j l. master_view few limit (block p (master_at j) master_words))
      ∙ sym (every-tab (sound_master reads (site_of s) limit) n (masters p)))

  pub port_view : get_or s 3 0 ≤ listed_max → (p : List ℕ) → port_sound (block s 0 head_words) p ≡ sound_port reads (site_of s) (port_of p)
  unfolding port_sound sound_port port_of masters
  port_view few p = simp (length-tab (get_or p 1 0) (masters p), placed_view few p, and_assoc)

  ports-length : length (book_of s).ports ≡ get_or s 0 0
  unfolding book_of
  ports-length = length-tab (get_or s 0 0) (λ q. port_of (block s (port_at q) port_words))

  listed-length : length (book_of s).site.listed ≡ get_or s 3 0
  unfolding book_of site_of
  listed-length = length-tab (get_or s 3 0) (λ i. get_or s (4 + i) 0)

  ports_view : get_or s 3 0 ≤ listed_max → all (get_or s 0 0) (port_test s) ≡ every (sound_port reads (book_of s).site) (book_of s).ports
  unfolding book_of
  ports_view few =
      all-ext (port_test s) (λ q. sound_port reads (site_of s) (port_of (block s (port_at q) port_words))) (get_or s 0 0) (λ q l. port_view few (block s (port_at q) port_words))
      ∙ sym (every-tab (sound_port reads (site_of s)) (get_or s 0 0) (λ q. port_of (block s (port_at q) port_words)))

  with-few : get_or s 3 0 ≤ listed_max → sound_words s ≡ sound_book reads (book_of s)
  unfolding sound_words sound_book
  with-few few = simp (ports-length, listed-length, ports_view few)

  without-few : listed_max < get_or s 3 0 → sound_words s ≡ sound_book reads (book_of s)
  unfolding sound_words sound_book
  without-few many = simp (ports-length, listed-length, lt-leb (get_or s 3 0) listed_max many, and-false)

  pub sound_view : sound_words s ≡ sound_book reads (book_of s)
  sound_view = ⊎_elim with-few without-few (le-or-lt (get_or s 3 0) listed_max)
