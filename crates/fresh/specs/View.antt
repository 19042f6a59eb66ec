-- A store after a fresh start holds the fresh book, which is sound; what lies past the book is as it was.
-- Assumes nothing.
use Prim.Native.Nat.{ℕ, ◌+◌, ◌-◌, ◌*◌, ◌≤◌, ◌<◌}
use Rattle.std.specs.Prelude.{◌≡◌, refl, Bool, true, false, cond, leb, length}
use Rattle.std.proofs.Math.Path.{sym, ap, ap₂}
use Rattle.std.proofs.Common.{◌∙◌}
use mathlib.Core.List.{List, map}
use native.Mathlib.Omega.{arith}
use Rattle.std.proofs.Math.Nat.{add-sub_cancel_left}
use borrow.Author.Tests.{leb-true, lt-ltb, le-ltb, ne_eqb}
use Rattle.std.proofs.Math.Arith.{digits_div, digits_mod}
use Rattle.std.proofs.Math.Dec.{eqb}
use Rattle.std.proofs.Math.ListN.{get_or}
use Rattle.slot.specs.Blocks.{block, get_or-block}
use Rattle.slot.specs.declared.ForeignAnnounceMessage.{ForeignAnnounceMessage}
use Rattle.history.specs.Rules.{ports_max, listed_max, interval_right}
use Rattle.history.specs.Port.{Site, Port}
use Rattle.history.specs.Book.{fresh_port, fresh_book}
use Rattle.history.specs.Sound.{every, sound_book, startable}
use Rattle.history.proofs.Kept.{fresh-sound}
use Rattle.book.specs.Below.{and₄, tab, tab-ext, map-tab}
use Rattle.book.specs.Layout.{master_words, port_words, head_words, store_words, master_at, port_at, master_of, port_of, site_of, book_of, reads}
use Rattle.book.specs.Rules.{sound_words}
use Rattle.book.proofs.View.{sound_view}
use Rattle.fresh.specs.Fresh.{site_with, rule_word, head_word, fresh_word, begun}
use Rattle.fresh.specs.Words.{tab-words, length-put-tab, put-tab_in, put-tab-past}

-- the rule is read back from its word
rule-read : (any : Bool) → eqb (rule_word any) 0 ≡ any
rule-read true = refl
rule-read false = refl

-- ---- the words

module _ (S : Site) (ns : List ℕ) where
  -- a word of the head
  head-fresh : (i : ℕ) → i < head_words → fresh_word S ns i ≡ head_word S (length ns) i
  unfolding fresh_word
  head-fresh i h = simp (lt-ltb i head_words h)

  -- word i of the list
  listed-fresh : (i : ℕ) → i < listed_max → fresh_word S ns (4 + i) ≡ get_or S.listed i 0
  unfolding head_word
  listed-fresh i h =
      head-fresh (4 + i) (omega arith)
      ∙ simp (
        ne_eqb (4 + i) 0 (λ e. omega arith),
        ne_eqb (4 + i) 1 (λ e. omega arith),
        ne_eqb (4 + i) 2 (λ e. omega arith),
        ne_eqb (4 + i) 3 (λ e. omega arith),
        add-sub_cancel_left 4 i,
      )

  -- word j of port q
  port-fresh : (q j : ℕ) → j < port_words → fresh_word S ns (port_at q + j) ≡ cond (eqb j 0) (get_or ns q 0) 0
  unfolding fresh_word
  port-fresh q j h =
      let e : port_at q + j - head_words ≡ q * port_words + j = omega arith in
      simp (le-ltb (port_at q + j) head_words (omega arith), e, digits_div q h, digits_mod q h)

-- ---- the store

module _ (S : Site) (ns s : List ℕ) (room : store_words ≤ length s) where
  -- the length stays
  pub begun-length : length (begun S ns s) ≡ length s
  unfolding begun
  begun-length = length-put-tab s (fresh_word S ns) store_words room

  -- a word past the book is as it was
  pub begun-past : (i : ℕ) → store_words ≤ i → get_or (begun S ns s) i 0 ≡ get_or s i 0
  unfolding begun
  begun-past = put-tab-past s (fresh_word S ns) store_words room

  -- a word of the book
  begun-word : (i : ℕ) → i < store_words → get_or (begun S ns s) i 0 ≡ fresh_word S ns i
  unfolding begun
  begun-word = put-tab_in s (fresh_word S ns) store_words room

  -- word j of port q
  begun-port : (q j : ℕ) → q < ports_max → j < port_words → get_or (block (begun S ns s) (port_at q) port_words) j 0 ≡ cond (eqb j 0) (get_or ns q 0) 0
  begun-port q j hq hj =
      get_or-block (begun S ns s) (port_at q) port_words j hj ∙ begun-word (port_at q + j) (omega arith) ∙ port-fresh S ns q j hj

  -- port q is a fresh one
  port_view : (q : ℕ) → q < ports_max → port_of (block (begun S ns s) (port_at q) port_words) ≡ fresh_port (get_or ns q 0)
  unfolding port_of
  port_view q h =
      let p : List ℕ = block (begun S ns s) (port_at q) port_words in
      ap₂ (λ (i n : ℕ). record { interval = i; masters = tab n (λ k. master_of (block p (master_at k) master_words)) })
      (begun-port q 0 h (omega arith)) (begun-port q 1 h (omega arith))

  -- a word of the head
  head_view : (i : ℕ) → i < head_words → get_or (begun S ns s) i 0 ≡ head_word S (length ns) i
  head_view i h = begun-word i (omega arith) ∙ head-fresh S ns i h

  -- the list
  listed_view : length S.listed ≤ listed_max → tab (get_or (begun S ns s) 3 0) (λ i. get_or (begun S ns s) (4 + i) 0) ≡ S.listed
  unfolding head_word
  listed_view few =
      let t = begun S ns s in
      ap (λ (n : ℕ). tab n (λ i. get_or t (4 + i) 0)) (head_view 3 (omega arith))
      ∙ tab-ext (length S.listed) (λ i. get_or t (4 + i) 0) (λ i. get_or S.listed i 0)
      (λ i l. begun-word (4 + i) (omega arith) ∙ listed-fresh S ns i (omega arith))
      ∙ tab-words S.listed

  -- the site is the one given
  site_view : length S.listed ≤ listed_max → site_of (begun S ns s) ≡ S
  unfolding site_of head_word
  site_view few =
      let t = begun S ns s in
      ap₂ (λ (own : ℕ) (any : Bool). site_with own any (tab (get_or t 3 0) (λ i. get_or t (4 + i) 0)))
      (head_view 1 (omega arith)) (ap (λ (w : ℕ). eqb w 0) (head_view 2 (omega arith)) ∙ rule-read S.any)
      ∙ ap (site_with S.own S.any) (listed_view few)

  -- the ports are fresh ones
  ports_view : length ns ≤ ports_max → (book_of (begun S ns s)).ports ≡ map fresh_port ns
  unfolding book_of head_word
  ports_view few =
      let t = begun S ns s in
      let f : ℕ → Port ForeignAnnounceMessage = λ q. port_of (block t (port_at q) port_words) in
      ap (λ (n : ℕ). tab n f) (head_view 0 (omega arith))
      ∙ tab-ext (length ns) f (λ q. fresh_port (get_or ns q 0)) (λ q l. port_view q (omega arith))
      ∙ sym (map-tab fresh_port (length ns) (λ q. get_or ns q 0))
      ∙ ap (map fresh_port) (tab-words ns)

  -- a store that was begun holds the fresh book
  pub begun_view : startable S.listed ns ≡ true → book_of (begun S ns s) ≡ fresh_book S ns
  unfolding book_of startable
  begun_view fit =
      let parts = and₄ (leb 1 (length ns)) (leb (length ns) ports_max) (leb (length S.listed) listed_max) (every interval_right ns) fit in
      ap₂ (λ (T : Site) (ps : List (Port ForeignAnnounceMessage)). record { site = T; ports = ps })
      (site_view (leb-true (length S.listed) listed_max parts.2)) (ports_view (leb-true (length ns) ports_max parts.1))

  -- and it is sound
  pub begun-sound : startable S.listed ns ≡ true → sound_words (begun S ns s) ≡ true
  begun-sound fit = sound_view (begun S ns s) ∙ ap (sound_book reads) (begun_view fit) ∙ fresh-sound reads S ns fit
