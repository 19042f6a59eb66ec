-- A port's words after consumption are its lists after it, and the tally is how many messages are consumed.
-- Assumes nothing.
use Prim.Native.Nat.{ℕ, zero, suc, ◌+◌, ◌-◌, ◌≤◌, ◌<◌}
use Rattle.std.specs.Prelude.{◌≡◌, Bool, cond, not, ◌&&◌, eqb, leb, length, Option}
use Rattle.std.proofs.Math.Path.{refl, sym, ap, ap₂}
use Rattle.std.proofs.Common.{◌∙◌, arith, zero-add, add-zero, add-suc, suc-add, le-leb, length-append, get_or-set_same}
use Rattle.std.proofs.Math.Bool.{true, false}
use mathlib.Core.List.{List, [], ◌∷◌, ◌++◌, append-nil, append_assoc}
use Rattle.std.proofs.Math.ListN.{get_or}
use Rattle.std.proofs.Math.Seq.{get_or-set_other}
use Rattle.slot.specs.Blocks.{block, length-block, block-set-before}
use Rattle.slot.specs.Slot.{decode}
use Rattle.slot.specs.declared.ForeignAnnounceMessage.{ForeignAnnounceMessage}
use Rattle.header.specs.declared.PortIdentity.{PortIdentity}
use Rattle.history.specs.Rules.{masters_max}
use Rattle.history.specs.Port.{Master, Offer, others, spared, offered, with, won_by, settled_from, consumed_from, holding}
use Rattle.book.specs.Below.{tab, tab_snoc, tab-ext, length-tab}
use Rattle.book.specs.Layout.{master_words, port_words, master_at, slot_at, identity_of, message_at, master_of, port_of}
use Rattle.offers.specs.Offers.{qualified, master_in}
use Rattle.offers.proofs.View.{offered-tab}
use Rattle.consumption.specs.Consume.{consumed, gone_below, consumed_in, gone_in}
use Rattle.consumption.proofs.Words.{length-below, consumed-master, consumed-word}

-- ---- lists

module _ {A : Type 0} where
  -- the values of a function but the newest
  others-tab : (f : ℕ → A) (n : ℕ) → others (f 0) (tab n (λ k. f (suc k))) ≡ tab n f
  others-tab f zero = refl
  others-tab f (suc n) = ap (λ (l : List A). f 0 ∷ l) (others-tab (λ k. f (suc k)) n)

  -- what is left of them where the newest is consumed
  spared-tab : (f : ℕ → A) (n : ℕ) → spared (tab n f) ≡ cond (leb 2 n) (tab (n - 1) f) (tab n f)
  spared-tab f zero = refl
  spared-tab f (suc zero) = refl
  spared-tab f (suc (suc n)) =
      let more : 2 ≤ suc (suc n) = omega arith in
      let left : suc (suc n) - 1 ≡ suc n = omega arith in
      rw (le-leb 2 (suc (suc n)) more, left) (ap (λ (l : List A). f 0 ∷ l) (others-tab (λ k. f (suc k)) n))

  module _ (o : Option Offer) where
    -- a master at its place after a decision
    abbrev settled : ℕ → Master A → Master A
    settled i M = with M (cond (won_by o i) M.messages (spared M.messages))

    -- the message that it loses
    abbrev lost : ℕ → Master A → List A
    lost i M = cond (won_by o i) [] (offered M.messages)

    -- each of the values of a function settled
    settled-tab : (k n : ℕ) (g : ℕ → Master A) → settled_from o k (tab n g) ≡ tab n (λ i. settled (k + i) (g i))
    settled-tab k zero g = refl
    settled-tab k (suc n) g =
        ap₂ ◌∷◌ (ap (λ (j : ℕ). settled j (g 0)) (sym (add-zero k)))
        (settled-tab (suc k) n (λ i. g (suc i))
        ∙ tab-ext n (λ i. settled (suc k + i) (g (suc i))) (λ i. settled (k + suc i) (g (suc i)))
        (λ i l. ap (λ (j : ℕ). settled j (g (suc i))) (suc-add k i ∙ sym (add-suc k i))))

    -- that of the last master comes last
    consumed-last : (k : ℕ) (Ms : List (Master A)) (M : Master A) → consumed_from o k (Ms ++ (M ∷ [])) ≡ consumed_from o k Ms ++ lost (k + length Ms) M
    consumed-last k [] M = append-nil (lost k M) ∙ ap (λ (i : ℕ). lost i M) (sym (add-zero k))
    consumed-last k (N ∷ Ms) M =
        ap (λ (l : List A). lost k N ++ l) (consumed-last (suc k) Ms M ∙ ap (λ (i : ℕ). consumed_from o (suc k) Ms ++ lost i M) (suc-add k (length Ms) ∙ sym (add-suc k (length Ms))))
        ∙ sym (append_assoc (lost k N) (consumed_from o (suc k) Ms) (lost (k + suc (length Ms)) M))

-- ---- a master

module _ (m : List ℕ) (size : length m ≡ master_words) where
  -- the words before the count are as they were
  other_word : (j : ℕ) → j < 3 → get_or (consumed m) j 0 ≡ get_or m j 0
  unfolding consumed
  other_word j l = get_or-set_other m 3 j (get_or m 3 0 - 1) 0 (λ e. omega arith)

  -- so it has the same name
  same_name : identity_of (consumed m) ≡ identity_of m
  same_name = rw (other_word 0 (omega arith), other_word 1 (omega arith))

  -- and the same messages
  same-message : (k : ℕ) → message_at (consumed m) k ≡ message_at m k
  unfolding message_at consumed
  same-message k =
      ap₂ (λ (x : PortIdentity) (s : ℕ). decode x (block (consumed m) (slot_at s k) 8)) same_name (other_word 2 (omega arith))
      ∙ ap (decode (identity_of m)) (block-set-before m 3 (get_or m 3 0 - 1) (slot_at (get_or m 2 0) k) 8 (omega arith))

  -- the newest message is gone
  without-newest : master_of (consumed m) ≡ with (master_of m) (tab (get_or m 3 0 - 1) (message_at m))
  unfolding master_of consumed
  without-newest =
      let n : ℕ = get_or m 3 0 - 1 in
      ap₂ (λ (x : PortIdentity) (ms : List ForeignAnnounceMessage). record { source = x; messages = ms }) same_name
      (ap (λ (j : ℕ). tab j (message_at (consumed m))) (get_or-set_same m 3 n 0 (omega arith)) ∙ tab-ext n (message_at (consumed m)) (message_at m) (λ k l. same-message k))

  -- a master that has won is as it was, any other has what is spared
  master_view : (won : Bool) → master_of (cond (not won && qualified (get_or m 3 0)) (consumed m) m) ≡ with (master_of m) (cond won (master_of m).messages (spared (master_of m).messages))
  unfolding master_of
  master_view true = refl
  master_view false = pick (qualified (get_or m 3 0)) ∙ ap (with (master_of m)) (sym (spared-tab (message_at m) (get_or m 3 0)))
    where
      pick : (b : Bool) → master_of (cond b (consumed m) m) ≡ with (master_of m) (cond b (tab (get_or m 3 0 - 1) (message_at m)) (tab (get_or m 3 0) (message_at m)))
      pick true = without-newest
      pick false = refl

-- as many messages go as it loses
gone-master : (m : List ℕ) (won : Bool) → cond (not won && qualified (get_or m 3 0)) 1 0 ≡ length (cond won [] (offered (master_of m).messages))
unfolding master_of
gone-master m true = refl
gone-master m false = pick (qualified (get_or m 3 0)) ∙ sym (ap length (offered-tab (message_at m) (get_or m 3 0)))
  where
    pick : (b : Bool) → cond b 1 0 ≡ length (cond b (message_at m (get_or m 3 0 - 1) ∷ []) [])
    pick true = refl
    pick false = refl

-- ---- a port

-- it keeps its length
pub length-consumed_in : (w : ℕ) (p : List ℕ) → length p ≡ port_words → length (consumed_in w p) ≡ port_words
unfolding consumed_in
length-consumed_in w p size = length-below w p (get_or p 1 0) ∙ size

module _
    (w : ℕ) (p : List ℕ) (o : Option Offer)
    (size : length p ≡ port_words)
    (few : get_or p 1 0 ≤ masters_max)
    (won : (i : ℕ) → i < get_or p 1 0 → won_by o i ≡ eqb w i)
  where
    -- master i
    abbrev master : ℕ → Master ForeignAnnounceMessage
    master i = master_of (master_in p i)

    -- its head is as it was
    head : (j : ℕ) → j < 4 → get_or (consumed_in w p) j 0 ≡ get_or p j 0
    head j l = consumed-word w p j (λ i h t e. omega arith)

    -- the winner's list stays as it was, and every other offered message is consumed
    pub consumed_view : port_of (consumed_in w p) ≡ holding (port_of p) (settled_from o 0 (port_of p).masters)
    unfolding port_of
    consumed_view =
        let n : ℕ = get_or p 1 0 in
        let q : List ℕ = consumed_in w p in
        ap₂ (λ (x : ℕ) (Ms : List (Master ForeignAnnounceMessage)). record { interval = x; masters = Ms }) (head 0 (omega arith))
        (ap (λ (k : ℕ). tab k (λ i. master_of (master_in q i))) (head 1 (omega arith))
        ∙ tab-ext n (λ i. master_of (master_in q i)) (λ i. settled o (0 + i) (master i))
        (λ i l. ap master_of (consumed-master w p i l)
        ∙ master_view (master_in p i) (length-block p (master_at i) master_words (omega arith)) (eqb w i)
        ∙ ap (λ (b : Bool). with (master i) (cond b (master i).messages (spared (master i).messages))) (sym (won i l) ∙ ap (won_by o) (sym (zero-add i))))
        ∙ sym (settled-tab o 0 n master))

    -- how many messages of the first n masters go
    gone-below : (n : ℕ) → n ≤ get_or p 1 0 → gone_below w n p ≡ length (consumed_from o 0 (tab n master))
    gone-below zero h = refl
    gone-below (suc n) h =
        ap₂ (λ (x y : ℕ). x + y) (gone-below n (omega arith))
        (gone-master (master_in p n) (eqb w n)
        ∙ ap (λ (b : Bool). length (cond b [] (offered (master n).messages))) (sym (won n (omega arith)) ∙ ap (won_by o) (sym (zero-add (length (tab n master)) ∙ length-tab n master))))
        ∙ sym (length-append (consumed_from o 0 (tab n master)) (lost o (0 + length (tab n master)) (master n)))
        ∙ ap length (sym (ap (consumed_from o 0) (tab_snoc n master) ∙ consumed-last o 0 (tab n master) (master n)))

    -- and the tally counts those
    pub gone_view : gone_in w p ≡ length (consumed_from o 0 (port_of p).masters)
    unfolding port_of gone_in
    gone_view = gone-below (get_or p 1 0) (omega arith)
