-- Every turn of a port conserves messages: what is held afterwards and what is gone are what was held and what was taken in, counted by
-- any test that does not read a message's age.
-- Assumes nothing.
use Rattle.std.specs.Prelude.{◌≡◌, Bool, not, ℕ, suc, ◌+◌, ltb, eqb, length, drop, Option}
use Rattle.std.proofs.Math.Path.{refl, ap}
use Rattle.std.proofs.Common.{sym, ap₂, ◌∙◌}
use Rattle.std.proofs.Math.Bool.{cond}
use mathlib.Core.List.{List, [], ◌∷◌, ◌++◌, map}
use native.Mathlib.Omega.{arith}
use Rattle.std.proofs.Math.ListN.{take}
use Rattle.header.specs.declared.PortIdentity.{PortIdentity}
use Rattle.same.specs.Same.{same_port}
use Rattle.history.specs.Rules.{messages_max, age_limit}
use Rattle.history.specs.Port.{Reads, sender, Master, Port, Site, Turn, receiver, push, put_out, newest, others, offered, spared, sift, list_of, admit, with, held_by, unchanged, taking, refusal, register_port, older, young, remaining, leaving, age_port, Offer, won_by, chosen, settled_from, consumed_from, decide_port, bad, announce, PortCall, idle, hear, pass, judge, turn}
use Rattle.history.proofs.Tests.{by}
use Rattle.history.proofs.Aged.{held-aged, out-aged}

-- ---- the lists, as wholes

module _ {A : Type 0} where
  push-whole : (ms : List A) (m : A) → put_out ms ++ push ms m ≡ ms ++ (m ∷ [])
  unfolding put_out push
  push-whole ms m =
      by (λ b. cond b [] (take 1 ms) ++ cond b (ms ++ (m ∷ [])) (drop 1 ms ++ (m ∷ [])) ≡ ms ++ (m ∷ [])) (ltb (length ms) messages_max) (λ t. refl) (λ t. first ms)
    where
      first : (ms : List A) → take 1 ms ++ (drop 1 ms ++ (m ∷ [])) ≡ ms ++ (m ∷ [])
      first [] = refl
      first (x ∷ xs) = refl

  newest-whole : (x : A) (xs : List A) → others x xs ++ (newest x xs ∷ []) ≡ x ∷ xs
  newest-whole x [] = refl
  newest-whole x (y ∷ ys) = ap (λ (l : List A). x ∷ l) (newest-whole y ys)

  offered-whole : (ms : List A) → spared ms ++ offered ms ≡ ms
  offered-whole [] = refl
  offered-whole (x ∷ []) = refl
  offered-whole (x ∷ y ∷ ys) = ap (λ (l : List A). x ∷ l) (newest-whole y ys)

-- ---- counted by a test

module _ {A : Type 0} (f : A → Bool) where
  -- how many pass it
  abbrev pub count : List A → ℕ
  count [] = 0
  count (x ∷ xs) = cond (f x) 1 0 + count xs

  count-append : (xs ys : List A) → count (xs ++ ys) ≡ count xs + count ys
  count-append [] ys = omega arith
  count-append (x ∷ xs) ys = omega (arith, count-append xs ys)

  count-sift : (p : A → Bool) (xs : List A) → count (sift p xs) + count (sift (λ x. not (p x)) xs) ≡ count xs
  count-sift p [] = refl
  count-sift p (x ∷ xs) =
      by (λ b. count (cond b (x ∷ sift p xs) (sift p xs)) + count (cond (not b) (x ∷ sift (λ x. not (p x)) xs) (sift (λ x. not (p x)) xs)) ≡ cond (f x) 1 0 + count xs) (p x)
      (λ t. omega (arith, count-sift p xs)) (λ t. omega (arith, count-sift p xs))

  count-push : (ms : List A) (m : A) → count (push ms m) + count (put_out ms) ≡ count ms + count (m ∷ [])
  count-push ms m = omega (arith, ap count (push-whole ms m), count-append (put_out ms) (push ms m), count-append ms (m ∷ []))

  count-offered : (ms : List A) → count (spared ms) + count (offered ms) ≡ count ms
  count-offered ms = sym (count-append (spared ms) (offered ms)) ∙ ap count (offered-whole ms)

  -- a message admitted, and the one that it puts out
  admit_conserves : (src : PortIdentity) (m : A) (Ms : List (Master A))
      → count (held_by (admit src m Ms)) + count (put_out (list_of src Ms)) ≡ count (held_by Ms) + count (m ∷ [])
  unfolding put_out
  admit_conserves src m [] = omega arith
  admit_conserves src m (M ∷ Ms) =
      by (λ b. count (held_by (cond b (with M (push M.messages m) ∷ Ms) (M ∷ admit src m Ms))) + count (put_out (cond b M.messages (list_of src Ms)))
      ≡ count (M.messages ++ held_by Ms) + count (m ∷ [])) (same_port M.source src)
      (λ t. omega (arith, count-push M.messages m, count-append (push M.messages m) (held_by Ms), count-append M.messages (held_by Ms)))
      (λ t. omega (arith, admit_conserves src m Ms, count-append M.messages (held_by (admit src m Ms)), count-append M.messages (held_by Ms)))

  -- the offered messages consumed, but for the winner
  settle_conserves : (w : Option Offer) (i : ℕ) (Ms : List (Master A))
      → count (held_by (settled_from w i Ms)) + count (consumed_from w i Ms) ≡ count (held_by Ms)
  settle_conserves w i [] = refl
  settle_conserves w i (M ∷ Ms) =
      let r = settled_from w (suc i) Ms in
      let c = consumed_from w (suc i) Ms in
      by (λ b. count (cond b M.messages (spared M.messages) ++ held_by r) + count (cond b [] (offered M.messages) ++ c) ≡ count (M.messages ++ held_by Ms)) (won_by w i)
      (λ t. omega (arith, settle_conserves w (suc i) Ms, count-append M.messages (held_by r), count-append M.messages (held_by Ms)))
      (λ t. omega (arith, settle_conserves w (suc i) Ms, count-offered M.messages, count-append (spared M.messages) (held_by r), count-append (offered M.messages) c, count-append M.messages (held_by Ms)))

-- ---- every turn

module _ {A : Type 0} (R : Reads A) (f : A → Bool) (ageless : (a : A) (n : ℕ) → f (R.aged a n) ≡ f a) where
  count-older : (step : ℕ) (ms : List A) → count f (map (older R step) ms) ≡ count f ms
  count-older step [] = refl
  count-older step (m ∷ ms) = ap₂ ◌+◌ (ap (λ (b : Bool). cond b 1 0) (ageless m (R.age m + step))) (count-older step ms)

  count-remaining : (step limit : ℕ) (ms : List A) → count f (remaining R step limit ms) + count f (leaving R step limit ms) ≡ count f ms
  unfolding remaining leaving
  count-remaining step limit ms = count-sift f (young R limit) (map (older R step) ms) ∙ count-older step ms

  -- what is held and gone after a turn is what was held and taken in
  abbrev pub Balanced : Port A → Turn A → Type 0
  Balanced P T =
      count f (held_by T.port.masters) + count f T.evicted + count f T.aged_out + count f T.consumed ≡ count f (held_by P.masters) + count f T.taken

  pub turn_conserves : (S : Site) (k : ℕ) (c : PortCall A) (P : Port A) → Balanced P (turn R S k c P)
  unfolding register_port age_port decide_port
  turn_conserves S k idle P = omega arith
  turn_conserves S k (hear (bad n)) P = omega arith
  turn_conserves S k (hear (announce m)) P =
      by (λ b. Balanced P (cond b (taking R m P) (unchanged (refusal R S k m P) P))) (eqb (refusal R S k m P) 0)
      (λ t. omega (arith, admit_conserves f (sender R m) (R.aged m 0) P.masters)) (λ t. omega arith)
  turn_conserves S k (pass step) P =
      omega (arith, ap (count f) (held-aged R step P), ap (count f) (out-aged R step P), count-remaining step (age_limit P.interval) (held_by P.masters))
  turn_conserves S k judge P = omega (arith, settle_conserves f (chosen R (receiver S k) P.masters) 0 P.masters)
