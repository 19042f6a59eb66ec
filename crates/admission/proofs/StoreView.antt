-- A registration over the store's words is the registration over its book: the refusal, the book afterwards, and how many are put out.
-- Assumes nothing.
use Prim.Native.Nat.{ℕ, zero, suc, ◌+◌, ◌≤◌, ◌<◌}
use Rattle.std.specs.Prelude.{◌≡◌, true, get_or}
use Rattle.std.proofs.Math.Path.{refl, sym, ap, ap₂}
use Rattle.std.proofs.Common.{◌∙◌, not-suc-le-zero, zero-add, add-zero, eq-eqb, ne_eqb, eqb-true}
use Rattle.std.proofs.Math.Bool.{cond}
use mathlib.Core.List.{List, [], ◌∷◌, map}
use native.Mathlib.Omega.{arith}
use Rattle.std.proofs.lemmas.Bool.{eqb-false}
use Rattle.std.proofs.Math.Dec.{eqb}
use Rattle.std.proofs.Math.ListN.{length}
use Rattle.wire.specs.Be.{put}
use Rattle.wire.proofs.BeLaws.{length-put, get_or-put_before}
use Rattle.slot.specs.Blocks.{block, length-block, grid-same, grid-other}
use Rattle.slot.specs.Slot.{Whole, aged}
use Rattle.slot.specs.declared.ForeignAnnounceMessage.{ForeignAnnounceMessage}
use Rattle.history.specs.Rules.{masters_max}
use Rattle.history.specs.Port.{Site, Port, Turn, Frame, PortCall, idle, hear, announce, sender, admit, holding, refusal, register_port, taking, unchanged, hearing, turn}
use Rattle.history.specs.Book.{Call, register, share, turns_from, turns, after, total, answer_from, number}
use Rattle.history.proofs.Tests.{by}
use Rattle.history.proofs.Parts.{accepted-parts}
use Rattle.book.specs.Below.{tab, tab-ext, map-tab}
use Rattle.book.specs.Layout.{port_words, head_words, store_words, port_at, port_of, site_of, book_of, reads, site-same}
use Rattle.store.specs.Search.{place}
use Rattle.book.specs.Rules.{sound_words}
use Rattle.book.proofs.Rules.{held, port-held, master-held}
use Rattle.book.proofs.View.{accepts_view, own_view}
use Rattle.refusal.specs.Refusal.{refusal_at, refusal_in}
use Rattle.admission.specs.Admit.{evicted_in, registered, registered_in}
use Rattle.admission.proofs.PortView.{Usual, order_view, room_view, place-below, evicted_view, registered_view, length-registered}

-- ---- the turns of a book's ports at a call

module _ (S : Site) (c : Call ForeignAnnounceMessage) where
  pub turns-tab : (n k : ℕ) (g : ℕ → Port ForeignAnnounceMessage) → turns_from reads S k c (tab n g) ≡ tab n (λ j. turn reads S (k + j) (share (k + j) c) (g j))
  turns-tab zero k g = refl
  turns-tab (suc n) k g =
      ap₂ (λ (T : Turn ForeignAnnounceMessage) (Ts : List (Turn ForeignAnnounceMessage)). T ∷ Ts)
      (ap (λ (i : ℕ). turn reads S i (share i c) (g zero)) (sym (add-zero k)))
      (turns-tab n (suc k) (λ j. g (suc j))
      ∙ tab-ext n (λ j. turn reads S (suc k + j) (share (suc k + j) c) (g (suc j))) (λ j. turn reads S (k + suc j) (share (k + suc j) c) (g (suc j)))
      (λ j l. ap (λ (i : ℕ). turn reads S i (share i c) (g (suc j))) (next k j)))
    where
      next : (k j : ℕ) → suc k + j ≡ k + suc j
      next k j = omega arith

-- what one turn alone adds to a tally
pub total-none : (f : Turn ForeignAnnounceMessage → List ForeignAnnounceMessage) (n : ℕ) (T : ℕ → Turn ForeignAnnounceMessage) → ((j : ℕ) → f (T j) ≡ []) → total f (tab n T) ≡ 0
total-none f zero T o = refl
total-none f (suc n) T o = simp (o zero, total-none f n (λ j. T (suc j)) (λ j. o (suc j)))

total-one : (f : Turn ForeignAnnounceMessage → List ForeignAnnounceMessage) (n i : ℕ) (T : ℕ → Turn ForeignAnnounceMessage) → i < n
    → ((j : ℕ) → (i ≡ j → ⊥) → f (T j) ≡ []) → total f (tab n T) ≡ length (f (T i))
total-one f zero i T h o = absurd (not-suc-le-zero h)
total-one f (suc n) zero T h o =
    ap (λ (k : ℕ). length (f (T zero)) + k) (total-none f n (λ j. T (suc j)) (λ j. o (suc j) (λ e. omega arith)))
    ∙ add-zero (length (f (T zero)))
total-one f (suc n) (suc i) T h o =
    ap (λ (l : List ForeignAnnounceMessage). length l + total f (tab n (λ j. T (suc j)))) (o zero (λ e. omega arith))
    ∙ zero-add (total f (tab n (λ j. T (suc j))))
    ∙ total-one f n i (λ j. T (suc j)) (omega arith) (λ j ne. o (suc j) (λ e. ne (omega arith)))

-- the number of a registration: that of the port that takes it, or 6
answer_at : (n k i : ℕ) (T : ℕ → Turn ForeignAnnounceMessage) → i < n → answer_from k (k + i) (tab n T) ≡ (T i).answer
answer_at zero k i T h = absurd (not-suc-le-zero h)
answer_at (suc n) k zero T h = simp (eq-eqb (k + 0) k (omega arith))
answer_at (suc n) k (suc i) T h =
    let next : k + suc i ≡ suc k + i = omega arith in
    rw (ne_eqb (k + suc i) k (λ e. omega arith)) (ap (λ (q : ℕ). answer_from (suc k) q (tab n (λ j. T (suc j)))) next ∙ answer_at n (suc k) i (λ j. T (suc j)) (omega arith))

answer-none : (n k q : ℕ) (T : ℕ → Turn ForeignAnnounceMessage) → ((j : ℕ) → j < n → q ≡ k + j → ⊥) → answer_from k q (tab n T) ≡ 6
answer-none zero k q T o = refl
answer-none (suc n) k q T o =
    rw (ne_eqb q k (λ e. o zero (omega arith) (omega arith))) (answer-none n (suc k) q (λ j. T (suc j)) (λ j l e. o (suc j) (omega arith) (omega arith)))

-- a registration is something to its port, and nothing to the others
share-here : (k : ℕ) (f : Frame ForeignAnnounceMessage) → share k (register k f) ≡ hear f
share-here k f = simp (eq-eqb k k refl)

share_other : (k q : ℕ) (f : Frame ForeignAnnounceMessage) → (q ≡ k → ⊥) → share k (register q f) ≡ idle
share_other k q f ne = simp (ne_eqb q k ne)

-- the turns of a store's ports at a call
turn_at : List ℕ → Call ForeignAnnounceMessage → ℕ → Turn ForeignAnnounceMessage
turn_at s c j = turn reads (site_of s) (1 + j) (share (1 + j) c) (port_of (block s (port_at j) port_words))

turns_at : (s : List ℕ) (c : Call ForeignAnnounceMessage) → turns reads c (book_of s) ≡ tab (get_or s 0 0) (turn_at s c)
unfolding turns book_of turn_at
turns_at s c = turns-tab (site_of s) c (get_or s 0 0) 1 (λ j. port_of (block s (port_at j) port_words))

-- the number of a registration, on a port that there is and on one that there is not
pub number-here : (s : List ℕ) (q : ℕ) (f : Frame ForeignAnnounceMessage) → q < get_or s 0 0
    → number (register (1 + q) f) (turns reads (register (1 + q) f) (book_of s)) ≡ (hearing reads (site_of s) (1 + q) f (port_of (block s (port_at q) port_words))).answer
unfolding number turn_at
number-here s q f h =
    ap (answer_from 1 (1 + q)) (turns_at s (register (1 + q) f))
    ∙ answer_at (get_or s 0 0) 1 q (turn_at s (register (1 + q) f)) h
    ∙ ap (λ (c : PortCall ForeignAnnounceMessage). (turn reads (site_of s) (1 + q) c (port_of (block s (port_at q) port_words))).answer) (share-here (1 + q) f)

pub number_6 : (s : List ℕ) (p : ℕ) (f : Frame ForeignAnnounceMessage) → ((j : ℕ) → j < get_or s 0 0 → p ≡ 1 + j → ⊥)
    → number (register p f) (turns reads (register p f) (book_of s)) ≡ 6
unfolding number
number_6 s p f o = ap (answer_from 1 p) (turns_at s (register p f)) ∙ answer-none (get_or s 0 0) 1 p (turn_at s (register p f)) o

-- ---- what soundness says of a port

module _ (s : List ℕ) (room : store_words ≤ length s) (sound : sound_words s ≡ true) (q : ℕ) (below : q < get_or s 0 0) where
  abbrev port : List ℕ
  port = block s (port_at q) port_words

  fits : port_at q + port_words ≤ length s
  fits = omega (arith, held s sound)

  usual : Usual port
  usual =
      record {
        size = length-block s (port_at q) port_words fits;
        some = λ i l. (master-held s sound q below i l).some;
        few = λ i l. (master-held s sound q below i l).few;
      }

  -- the refusal
  pub refusal_view : (m : ForeignAnnounceMessage) → refusal_in s q m ≡ refusal reads (site_of s) (1 + q) m (port_of (block s (port_at q) port_words))
  unfolding refusal_in refusal_at refusal
  refusal_view m =
      let clock = (sender reads m).clock_identity in
      let number : q + 1 ≡ 1 + q = omega arith in
      simp (number, own_view s, accepts_view s (held s sound).listed clock, order_view port m usual, room_view port (sender reads m))

  -- where it is not refused there is room
  pub room-there : (m : ForeignAnnounceMessage) → refusal_in s q m ≡ 0 → place (block s (port_at q) port_words) (sender reads m) < masters_max
  room-there m done =
      place-below port (sender reads m) (port-held s sound q below).masters (accepted-parts reads (site_of s) (1 + q) m (port_of port) (sym (refusal_view m) ∙ done)).room

  module _ (m : ForeignAnnounceMessage) (whole : Whole m) (new : m.age ≡ 0) (done : refusal_in s q m ≡ 0) where
    abbrev call : Call ForeignAnnounceMessage
    call = register (1 + q) (announce m)

    T : ℕ → Turn ForeignAnnounceMessage
    T = turn_at s call

    -- the port's own turn, and the others'
    turn-here : T q ≡ taking reads m (port_of port)
    unfolding T turn_at register_port
    turn-here =
        ap (λ (c : PortCall ForeignAnnounceMessage). turn reads (site_of s) (1 + q) c (port_of port)) (share-here (1 + q) (announce m))
        ∙ ap (λ (n : ℕ). cond (eqb n 0) (taking reads m (port_of port)) (unchanged n (port_of port))) (sym (refusal_view m) ∙ done)

    turn-other : (j : ℕ) → (q ≡ j → ⊥) → T j ≡ unchanged 0 (port_of (block s (port_at j) port_words))
    unfolding T turn_at
    turn-other j ne =
        ap (λ (c : PortCall ForeignAnnounceMessage). turn reads (site_of s) (1 + j) c (port_of (block s (port_at j) port_words)))
        (share_other (1 + j) (1 + q) (announce m) (λ e. ne (omega arith)))

    -- how many are put out
    pub evicted_in_view : evicted_in s q m ≡ total (λ t. t.evicted) (turns reads call (book_of s))
    unfolding evicted_in T
    evicted_in_view =
        evicted_view port m
        ∙ sym (ap (λ (t : Turn ForeignAnnounceMessage). length t.evicted) turn-here)
        ∙ sym (total-one (λ t. t.evicted) (get_or s 0 0) q T below (λ j ne. ap (λ (t : Turn ForeignAnnounceMessage). t.evicted) (turn-other j ne)))
        ∙ sym (ap (total (λ t. t.evicted)) (turns_at s call))

    -- nothing ages out and nothing is consumed
    pub others_view : (f : Turn ForeignAnnounceMessage → List ForeignAnnounceMessage) → f (taking reads m (port_of port)) ≡ []
        → ((P : Port ForeignAnnounceMessage) → f (unchanged 0 P) ≡ []) → total f (turns reads call (book_of s)) ≡ 0
    unfolding T
    others_view f here other =
        ap (total f) (turns_at s call)
        ∙ total-one f (get_or s 0 0) q T below (λ j ne. ap f (turn-other j ne) ∙ other (port_of (block s (port_at j) port_words)))
        ∙ ap length (ap f turn-here ∙ here)

    -- the book afterwards
    new_port : List ℕ
    new_port = registered port m

    new_size : length new_port ≡ port_words
    unfolding new_port
    new_size = length-registered port m usual (room-there m done) whole

    word : (j : ℕ) → j < head_words → get_or (put s (port_at q) new_port) j 0 ≡ get_or s j 0
    word j h = get_or-put_before s (port_at q) new_port j (omega arith) (omega (arith, fits))

    entering : aged m 0 ≡ m
    unfolding aged
    entering = λ i. record { message = m.message; age = sym new i; receipt = m.receipt }

    pub length-registered_in : length (registered_in s q m) ≡ length s
    unfolding registered_in new_port
    length-registered_in = length-put s (port_at q) new_port (omega (arith, fits, new_size))

    moved : (j : ℕ) → q ≡ j → port_of (block (put s (port_at q) new_port) (port_at j) port_words) ≡ (T j).port
    unfolding new_port
    moved j e =
        ap (λ (i : ℕ). port_of (block (put s (port_at q) new_port) (port_at i) port_words)) (sym e)
        ∙ ap port_of (grid-same s new_port head_words port_words q new_size fits)
        ∙ registered_view port m usual (room-there m done) whole
        ∙ ap (λ (x : ForeignAnnounceMessage). holding (port_of port) (admit (sender reads m) x (port_of port).masters)) (sym entering)
        ∙ sym (ap (λ (t : Turn ForeignAnnounceMessage). t.port) turn-here)
        ∙ ap (λ (i : ℕ). (T i).port) e

    pub registered_in_view : book_of (registered_in s q m) ≡ after reads call (book_of s)
    unfolding book_of after registered_in new_port T
    registered_in_view =
        let out : List ℕ = put s (port_at q) new_port in
        let g' : ℕ → Port ForeignAnnounceMessage = λ j. port_of (block out (port_at j) port_words) in
        let there : (j : ℕ) → g' j ≡ (T j).port = λ j.
        by (λ b. eqb q j ≡ b → g' j ≡ (T j).port) (eqb q j)
        (λ e f. moved j (eqb-true q j e))
        (λ e f. ap port_of (grid-other s new_port head_words port_words q new_size fits j (eqb-false q j e))
        ∙ sym (ap (λ (t : Turn ForeignAnnounceMessage). t.port) (turn-other j (eqb-false q j e)))) refl in
        ap₂ (λ (S : Site) (Ps : List (Port ForeignAnnounceMessage)). record { site = S; ports = Ps }) (site-same s out (held s sound).listed word)
        (ap (λ (n : ℕ). tab n g') (word 0 (omega arith))
        ∙ tab-ext (get_or s 0 0) g' (λ j. (T j).port) (λ j l. there j)
        ∙ sym (map-tab (λ (t : Turn ForeignAnnounceMessage). t.port) (get_or s 0 0) T)
        ∙ sym (ap (map (λ (t : Turn ForeignAnnounceMessage). t.port)) (turns_at s call)))
