-- The steps by which the k-th candidate of a book is found on the words of its store.
-- Assumes nothing.
use Prim.Native.Nat.{ℕ, zero, suc, ◌+◌, ◌-◌, ◌≤◌, ◌<◌, zero-le, suc-le-suc}
use Rattle.std.specs.Prelude.{◌≡◌, refl, Bool, get_or, slice_get, option_map, Some, None, Ok, Err}
use Rattle.std.proofs.Math.Path.{sym, ap}
use Rattle.std.proofs.Common.{◌∙◌, not-suc-le-zero, le_of_suc-le-suc, zero-add, add-zero, add-suc, suc-add, add-one, drop_of_length-le}
use Rattle.std.proofs.Math.Bool.{true, cond}
use mathlib.Core.List.{List, [], ◌∷◌, ◌++◌, map}
use native.Mathlib.Omega.{arith}
use Rattle.std.proofs.Math.ListN.{length, drop, get_or-map, length-map, length-drop}
use Rattle.std.proofs.Math.Seq.{drop-nil}
use Rattle.wire.specs.Refusal.{on-done, on-refused}
use Rattle.refused.specs.declared.Refusal.{Refusal}
use Rattle.refused.specs.Refusal.{number_of, refused}
use Rattle.refused.proofs.Laws.{number-positive, refused-number}
use Rattle.choice.specs.declared.BestAnnounceMessage.{BestAnnounceMessage}
use Rattle.choice.specs.Choice.{joined}
use Rattle.choice.specs.Candidate.{candidate_of}
use Rattle.history.specs.Port.{receiver}
use Rattle.history.proofs.Tests.{by}
use Rattle.book.specs.Below.{tab, length-tab}
use Rattle.book.specs.Layout.{identity, site_of}
use Rattle.book.specs.Rules.{store_refusal}
use Rattle.offers.specs.Offers.{best_at, down_from, offering}
use Rattle.candidates.specs.Candidates.{place_of, numbered, standing, placed, offered_in, laid, candidate_answer}
use Rattle.candidates.proofs.Nth.{nth-next, nth-none, get_or-next, within, beyond, drop-tab}
use Rattle.candidates.specs.View.{port_in, offers_in}
use Rattle.candidates.proofs.View.{candidates_view}

-- ---- the places at which a test holds, the last first

module _ (test : ℕ → Bool) where
  -- one or none at a place
  abbrev pub ones : ℕ → ℕ
  ones i = cond (test i) 1 0

  pub ones_by : (i : ℕ) (b : Bool) → b ≡ test i → ones i ≡ cond b 1 0
  ones_by i b e = ap (λ (t : Bool). cond {A = ℕ} t 1 0) (sym e)

  -- how many there are below a number: one more place, and no more than the number
  pub count-more : (i : ℕ) → length (down_from (suc i) test) ≡ length (down_from i test) + ones i
  unfolding down_from
  count-more i = by (λ b. length (cond b (i ∷ down_from i test) (down_from i test)) ≡ length (down_from i test) + cond b 1 0) (test i) (λ e. omega arith) (λ e. omega arith)

  pub count-le : (n : ℕ) → length (down_from n test) ≤ n
  unfolding down_from
  count-le zero = zero-le
  count-le (suc n) = by (λ b. length (cond b (n ∷ down_from n test) (down_from n test)) ≤ suc n) (test n) (λ e. suc-le-suc (count-le n)) (λ e. omega (arith, count-le n))

  -- a place comes first of those up to it if the test holds there
  abbrev at : ℕ → List ℕ
  at i = cond (test i) (i ∷ []) []

  at_first : (i : ℕ) → down_from (suc i) test ≡ at i ++ down_from i test
  unfolding down_from
  at_first i = by (λ b. cond b (i ∷ down_from i test) (down_from i test) ≡ cond b (i ∷ []) [] ++ down_from i test) (test i) (λ e. refl) (λ e. refl)

  at_length : (i : ℕ) → length (at i) ≡ ones i
  at_length i = by (λ b. length (cond b (i ∷ []) []) ≡ cond b 1 0) (test i) (λ e. refl) (λ e. refl)

  at_here : (i left : ℕ) → left < ones i → get_or (at i) left 0 ≡ i
  at_here i left = by (λ b. left < cond b 1 0 → get_or (cond b (i ∷ []) []) left 0 ≡ i) (test i) (λ e. here left) (λ e h. absurd (not-suc-le-zero h))
    where
      here : (n : ℕ) → n < 1 → get_or (i ∷ []) n 0 ≡ i
      here zero h = refl
      here (suc n) h = absurd (not-suc-le-zero (le_of_suc-le-suc h))

  -- what is left below place i, after so many that are passed over, is what is left from the k-th on
  module _ (n k i left : ℕ) (inv : drop left (down_from i test) ≡ drop k (down_from n test)) (few : k < length (down_from n test)) where
    -- something is left,
    pub some_left : 0 < i
    unfolding down_from
    some_left = positive i (sym (length-drop left (down_from i test)) ∙ ap length inv ∙ length-drop k (down_from n test))
      where
        positive : (i : ℕ) → length (down_from i test) - left ≡ length (down_from n test) - k → 0 < i
        positive zero e = absurd (omega arith)
        positive (suc i) e = omega arith

    place-first : drop left (at (i - 1) ++ down_from (i - 1) test) ≡ drop k (down_from n test)
    place-first =
        let e : suc (i - 1) ≡ i = omega (arith, some_left) in
        ap (drop left) (sym (at_first (i - 1)) ∙ ap (λ (j : ℕ). down_from j test) e) ∙ inv

    -- the place before i is the k-th,
    pub place_found : left < ones (i - 1) → i - 1 ≡ get_or (down_from n test) k 0
    place_found l =
        sym (at_here (i - 1) left l)
        ∙ sym (get_or-next (down_from n test) k (get_or (at (i - 1)) left 0) _ 0 (sym place-first ∙ within (at (i - 1)) (down_from (i - 1) test) left 0 (omega (arith, at_length (i - 1)))))

    -- or it is passed over.
    pub place-next : ones (i - 1) ≤ left → drop (left - ones (i - 1)) (down_from (i - 1) test) ≡ drop k (down_from n test)
    place-next l =
        ap (λ (j : ℕ). drop (left - j) (down_from (i - 1) test)) (sym (at_length (i - 1)))
        ∙ sym (beyond (at (i - 1)) (down_from (i - 1) test) left (omega (arith, at_length (i - 1))))
        ∙ place-first

  -- a place of those below n
  abbrev pub Right : ℕ → List ℕ → ℕ → Type 0
  Right n is k = k < length is → (get_or is k 0 < n) × (test (get_or is k 0) ≡ true)

  -- each of them is below the count, and the test holds there
  pub place-right : (n k : ℕ) → Right n (down_from n test) k
  unfolding down_from
  place-right zero k = λ h. absurd (not-suc-le-zero h)
  place-right (suc n) k =
      by (λ b. Right (suc n) (cond b (n ∷ down_from n test) (down_from n test)) k) (test n)
      (λ e. first k e (place-right n)) (λ e h. let r = place-right n k h in (omega (arith, r.0), r.1))
    where
      first : (k : ℕ) → test n ≡ true → ((k : ℕ) → Right n (down_from n test) k) → Right (suc n) (n ∷ down_from n test) k
      first zero e f h = (omega arith, e)
      first (suc k) e f h = let r = f k (le_of_suc-le-suc h) in (omega (arith, r.0), r.1)

-- ---- the candidates of the ports, one port after the other

-- the k-th of a list, as the candidate that stands there
numbered-nth : (n k : ℕ) (bs : List BestAnnounceMessage) → slice_get (map standing (numbered n bs)) k ≡ option_map (λ b. candidate_of b (n + k)) (slice_get bs k)
numbered-nth n k [] = refl
numbered-nth n zero (b ∷ bs) = ap (λ (j : ℕ). Some (candidate_of b j)) (sym (add-zero n))
numbered-nth n (suc k) (b ∷ bs) =
    numbered-nth (suc n) k bs ∙ ap (λ (j : ℕ). option_map (λ b. candidate_of b j) (slice_get bs k)) (suc-add n k ∙ sym (add-suc n k))

pub placed-nth : (k : ℕ) (bs : List BestAnnounceMessage) → slice_get (placed bs) k ≡ option_map (λ b. candidate_of b k) (slice_get bs k)
unfolding placed
placed-nth k bs = numbered-nth 0 k bs ∙ ap (λ (j : ℕ). option_map (λ b. candidate_of b j) (slice_get bs k)) (zero-add k)

-- the port that receives, by the words of the head
pub receiver-word : (s : List ℕ) (k : ℕ) → identity (get_or s 1 0) k ≡ receiver (site_of s) k
unfolding site_of
receiver-word s k = refl

-- what is left at port q, after so many that are passed over, is what is left from the k-th on
abbrev pub Left : List ℕ → ℕ → ℕ → ℕ → Type 0
Left s k q left = drop left (joined (drop q (tab (get_or s 0 0) (offers_in s)))) ≡ drop k (offered_in s)

module _ (s : List ℕ) (k : ℕ) where
  pub left-start : Left s k 0 k
  left-start = ap (λ (bss : List (List BestAnnounceMessage)). drop k (joined bss)) (sym (candidates_view s))

  module _ (q left : ℕ) (inv : Left s k q left) where
    rest : List BestAnnounceMessage
    rest = joined (drop (suc q) (tab (get_or s 0 0) (offers_in s)))

    -- port q comes first
    port-first : q < get_or s 0 0 → drop left (offers_in s q ++ rest) ≡ drop k (offered_in s)
    unfolding rest
    port-first h = ap (λ (bss : List (List BestAnnounceMessage)). drop left (joined bss)) (sym (drop-tab (get_or s 0 0) (offers_in s) q h)) ∙ inv

    -- it is passed over,
    pub left-next : (n : ℕ) → n ≡ length (offering (port_in s q)) → q < get_or s 0 0 → n ≤ left → Left s k (q + 1) (left - n)
    unfolding rest
    left-next n e h l =
        let m : length (offers_in s q) ≡ n = length-map (offering (port_in s q)) _ ∙ sym e in
        ap (λ (j : ℕ). drop (left - n) (joined (drop j (tab (get_or s 0 0) (offers_in s))))) (add-one q)
        ∙ ap (λ (j : ℕ). drop (left - j) rest) (sym m)
        ∙ sym (beyond (offers_in s q) rest left (omega arith))
        ∙ port-first h

    -- or the k-th candidate is one of its own,
    pub left-found : q < get_or s 0 0 → left < length (offering (port_in s q))
        → Some (candidate_of (best_at (receiver (site_of s) (q + 1)) (port_in s q) (place_of (port_in s q) left)) k) ≡ slice_get (laid s) k
    left-found h l =
        let r = receiver (site_of s) (q + 1) in
        let p = port_in s q in
        let f : ℕ → BestAnnounceMessage = best_at r p in
        let n : length (offers_in s q) ≡ length (offering p) = length-map (offering p) f in
        let here : slice_get (offered_in s) k ≡ Some (get_or (offers_in s q) left (f 0)) =
        nth-next (offered_in s) k (get_or (offers_in s q) left (f 0)) _ (sym (port-first h) ∙ within (offers_in s q) rest left (f 0) (omega arith)) in
        sym (placed-nth k (offered_in s) ∙ ap (option_map (λ b. candidate_of b k)) (here ∙ ap Some (get_or-map f (offering p) left 0)))

    -- or there is none.
    pub left-none : get_or s 0 0 ≤ q → None ≡ slice_get (laid s) k
    left-none h =
        let none_left : drop k (offered_in s) ≡ [] =
        sym inv
        ∙ ap (λ (bss : List (List BestAnnounceMessage)). drop left (joined bss)) (drop_of_length-le (tab (get_or s 0 0) (offers_in s)) {i = q} (omega (arith, length-tab (get_or s 0 0) (offers_in s))))
        ∙ drop-nil left in
        sym (placed-nth k (offered_in s) ∙ ap (option_map (λ b. candidate_of b k)) (nth-none (offered_in s) k none_left))

-- ---- the answers

-- the answers of the call: where the store is refused, and where it is not
pub answer-refused : (s : List ℕ) (k : ℕ) (e : Refusal) → number_of e ≡ store_refusal s → Err e ≡ candidate_answer s k
unfolding candidate_answer
answer-refused s k e h =
    refused-number e ∙ rw (← h) (sym (on-refused (number_of e) (Ok (slice_get (laid s) k)) refused (λ z. omega (arith, number-positive e))))

pub answer-done : (s : List ℕ) (k : ℕ) → store_refusal s ≡ 0 → Ok (slice_get (laid s) k) ≡ candidate_answer s k
unfolding candidate_answer
answer-done s k e = sym (on-done (store_refusal s) (Ok (slice_get (laid s) k)) refused e)
