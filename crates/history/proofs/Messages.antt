-- A master's list stays sound: with a new message at its end, older by a step, and without its newest.
-- Assumes nothing.
use Rattle.std.specs.Prelude.{◌≡◌, Bool, true, cond, ◌&&◌, ℕ, suc, ◌+◌, ◌≤◌, ◌<◌, leb, drop}
use Rattle.std.proofs.Math.Path.{refl}
use Rattle.std.proofs.Common.{ap, ap₂, ◌∙◌, arith}
use mathlib.Core.List.{List, [], ◌∷◌, ◌++◌, map}
use borrow.Author.Tests.{le-leb, leb-true, lt-ltb, ltb-true}
use Rattle.std.proofs.Math.Dec.{ltb}
use Rattle.std.proofs.Math.ListN.{length, length-append, length-drop}
use Rattle.std.proofs.lemmas.List.{length-map}
use Rattle.header.specs.declared.PortIdentity.{PortIdentity}
use Rattle.announce.specs.declared.AnnounceMessage.{AnnounceMessage}
use Rattle.wire.specs.Below.{both}
use Rattle.same.specs.Same.{same_port}
use Rattle.history.specs.Rules.{messages_max, in_step, steps_limit}
use Rattle.history.specs.Port.{Reads, sender, sequence, steps, push, newest, others, spared, sift, is_in_order, older, young, remaining}
use Rattle.history.specs.Sound.{Lawful, holdable, follows, sound_after, sound_messages}
use Rattle.history.proofs.Tests.{together, by}

-- ---- the rules, by their parts

module _ {A : Type 0} (R : Reads A) where
  -- a message that may be held
  pub record HoldableParts (src : PortIdentity) (limit : ℕ) (m : A) : Type 0 where
    pub sent : same_port (sender R m) src ≡ true
    pub steps : steps R m < steps_limit
    pub age : R.age m < limit

  pub holdable-parts : (src : PortIdentity) (limit : ℕ) (m : A) → holdable R src limit m ≡ true → HoldableParts src limit m
  unfolding holdable
  holdable-parts src limit m e =
      let a = same_port (sender R m) src in
      let b = ltb (steps R m) steps_limit in
      let e₂ = both (a && b) (ltb (R.age m) limit) e in
      let e₁ = both a b e₂.0 in
      record { sent = e₁.0; steps = ltb-true (steps R m) steps_limit e₁.1; age = ltb-true (R.age m) limit e₂.1 }

  -- a message that follows: its age, its sequence, and back
  follows-age : (a b : A) → follows R a b ≡ true → R.age b ≤ R.age a
  unfolding follows
  follows-age a b f = leb-true (R.age b) (R.age a) (both (leb (R.age b) (R.age a)) (in_step (sequence R a) (sequence R b)) f).0

  follows-step : (a b : A) → follows R a b ≡ true → in_step (sequence R a) (sequence R b) ≡ true
  unfolding follows
  follows-step a b f = (both (leb (R.age b) (R.age a)) (in_step (sequence R a) (sequence R b)) f).1

  follow : (a b : A) → R.age b ≤ R.age a → in_step (sequence R a) (sequence R b) ≡ true → follows R a b ≡ true
  unfolding follows
  follow a b h e = together (le-leb (R.age b) (R.age a) h) e

module _ {A : Type 0} {R : Reads A} (law : Lawful R) where
  -- another age leaves the sequence
  aged-sequence : (m : A) (n : ℕ) → sequence R (R.aged m n) ≡ sequence R m
  aged-sequence m n = ap (λ (a : AnnounceMessage). a.header.sequence_id) (law.message m n)

  -- a message at another age may be held if that age is below the limit
  pub aged-holdable : (src : PortIdentity) (limit : ℕ) (m : A) (n : ℕ) → same_port (sender R m) src ≡ true → steps R m < steps_limit → n < limit
      → holdable R src limit (R.aged m n) ≡ true
  unfolding holdable
  aged-holdable src limit m n s t h =
      together
      (together (ap (λ (a : AnnounceMessage). same_port a.header.source_port_identity src) (law.message m n) ∙ s)
      (ap (λ (a : AnnounceMessage). ltb a.steps_removed steps_limit) (law.message m n) ∙ lt-ltb (steps R m) steps_limit t))
      (ap (λ (k : ℕ). ltb k limit) (law.age m n) ∙ lt-ltb n limit h)

  -- the order is that of the message at any age
  pub aged-order : (ms : List A) (m : A) (n : ℕ) → is_in_order R ms m ≡ true → is_in_order R ms (R.aged m n) ≡ true
  aged-order [] m n e = refl
  aged-order (x ∷ xs) m n e = ap (in_step (sequence R (newest x xs))) (aged-sequence m n) ∙ e

-- ---- a new message at the end

module _ {A : Type 0} where
  -- a list has 1 to 8 messages after it
  pub push-some : (ms : List A) (m : A) → 1 ≤ length (push ms m)
  unfolding push
  push-some ms m =
      by (λ b. 1 ≤ length (cond b (ms ++ (m ∷ [])) (drop 1 ms ++ (m ∷ [])))) (ltb (length ms) messages_max)
      (λ l. omega (arith, length-append ms (m ∷ [])))
      (λ l. omega (arith, length-append (drop 1 ms) (m ∷ [])))

  pub push-few : (ms : List A) (m : A) → length ms ≤ messages_max → length (push ms m) ≤ messages_max
  unfolding push
  push-few ms m h =
      by (λ b. length (cond b (ms ++ (m ∷ [])) (drop 1 ms ++ (m ∷ []))) ≤ messages_max) (ltb (length ms) messages_max)
      (λ l. omega (arith, length-append ms (m ∷ []), ltb-true (length ms) messages_max l))
      (λ l. omega (arith, length-append (drop 1 ms) (m ∷ []), length-drop 1 ms))

module _ {A : Type 0} (R : Reads A) (src : PortIdentity) (limit : ℕ) where
  -- short names for the tests of a list
  abbrev held : A → Bool
  held m = holdable R src limit m

  abbrev later : A → List A → Bool
  later b ms = sound_after R src limit b ms

  abbrev whole : List A → Bool
  whole ms = sound_messages R src limit ms

  -- a message of age 0 that may follow the last one
  module _ (m : A) (new : R.age m ≡ 0) (good : held m ≡ true) where
    -- at the end, below a message and in a whole list
    after-end : (b : A) (ms : List A) → later b ms ≡ true → in_step (sequence R (newest b ms)) (sequence R m) ≡ true → later b (ms ++ (m ∷ [])) ≡ true
    after-end b [] s e = together (together good (follow R b m (omega arith) e)) refl
    after-end b (a ∷ ms) s e =
        let t = both (held a && follows R b a) (later a ms) s in
        together t.0 (after-end a ms t.1 e)

    at-end : (ms : List A) → whole ms ≡ true → is_in_order R ms m ≡ true → whole (ms ++ (m ∷ [])) ≡ true
    at-end [] s e = together good refl
    at-end (a ∷ ms) s e =
        let t = both (held a) (later a ms) s in
        together t.0 (after-end a ms t.1 e)

  -- without its first
  tail-sound : (b : A) (ms : List A) → later b ms ≡ true → whole ms ≡ true
  tail-sound b [] s = refl
  tail-sound b (a ∷ ms) s =
      let t = both (held a && follows R b a) (later a ms) s in
      together (both (held a) (follows R b a) t.0).0 t.1

  drop-sound : (ms : List A) → whole ms ≡ true → whole (drop 1 ms) ≡ true
  drop-sound [] s = refl
  drop-sound (a ∷ ms) s = tail-sound a ms (both (held a) (later a ms) s).1

  -- the last is the same without the first
  drop-order : (ms : List A) (m : A) → is_in_order R ms m ≡ true → is_in_order R (drop 1 ms) m ≡ true
  drop-order [] m e = refl
  drop-order (a ∷ []) m e = refl
  drop-order (a ∷ b ∷ ms) m e = e

  -- the new message, and the ninth without the first
  pub push-sound : (ms : List A) (m : A) → R.age m ≡ 0 → held m ≡ true → whole ms ≡ true → is_in_order R ms m ≡ true → whole (push ms m) ≡ true
  unfolding push
  push-sound ms m new good s e =
      by (λ b. whole (cond b (ms ++ (m ∷ [])) (drop 1 ms ++ (m ∷ []))) ≡ true) (ltb (length ms) messages_max) (λ l. at-end m new good ms s e)
      (λ l. at-end m new good (drop 1 ms) (drop-sound ms s) (drop-order ms m e))

-- ---- older by a step

module _ {A : Type 0} where
  -- no more are left
  pub length-sift : (f : A → Bool) (xs : List A) → length (sift f xs) ≤ length xs
  length-sift f [] = omega arith
  length-sift f (x ∷ xs) =
      by (λ b. length (cond b (x ∷ sift f xs) (sift f xs)) ≤ suc (length xs)) (f x) (λ t. omega (arith, length-sift f xs)) (λ t. omega (arith, length-sift f xs))

pub length-remaining : {A : Type 0} (R : Reads A) (step limit : ℕ) (ms : List A) → length (remaining R step limit ms) ≤ length ms
unfolding remaining
length-remaining R step limit ms = omega (arith, length-sift (young R limit) (map (older R step) ms), length-map ms (older R step))

module _ {A : Type 0} {R : Reads A} (law : Lawful R) (src : PortIdentity) (limit step : ℕ) where
  -- what follows a message that stays, stays
  still : (b a : A) → follows R b a ≡ true → young R limit (older R step b) ≡ true → young R limit (older R step a) ≡ true
  still b a f y =
      lt-ltb (R.age (older R step a)) limit
      (omega (arith, follows-age R b a f, ltb-true (R.age (older R step b)) limit y, law.age a (R.age a + step), law.age b (R.age b + step)))

  -- older by the same step, the one still follows the other, and may be held while it is young enough
  older-follows : (b a : A) → follows R b a ≡ true → follows R (older R step b) (older R step a) ≡ true
  older-follows b a f =
      follow R (older R step b) (older R step a) (omega (arith, follows-age R b a f, law.age a (R.age a + step), law.age b (R.age b + step)))
      (ap₂ in_step (aged-sequence law b (R.age b + step)) (aged-sequence law a (R.age a + step)) ∙ follows-step R b a f)

  older-holdable : (a : A) → holdable R src limit a ≡ true → young R limit (older R step a) ≡ true → holdable R src limit (older R step a) ≡ true
  older-holdable a h y =
      let p = holdable-parts R src limit a h in
      aged-holdable law src limit a (R.age a + step) p.sent p.steps (omega (arith, ltb-true (R.age (older R step a)) limit y, law.age a (R.age a + step)))

  -- once one is young enough, so are all that follow: none in the middle goes
  after-remaining : (b : A) (ms : List A) → sound_after R src limit b ms ≡ true → young R limit (older R step b) ≡ true
      → sound_after R src limit (older R step b) (remaining R step limit ms) ≡ true
  unfolding remaining
  after-remaining b [] s y = refl
  after-remaining b (a ∷ ms) s y =
      let t = both (holdable R src limit a && follows R b a) (sound_after R src limit a ms) s in
      let u = both (holdable R src limit a) (follows R b a) t.0 in
      let z = still b a u.1 y in
      simp z (together (together (older-holdable a u.0 z) (older-follows b a u.1)) (after-remaining a ms t.1 z))

  -- what is left after ageing is sound
  pub remaining-sound : (ms : List A) → sound_messages R src limit ms ≡ true → sound_messages R src limit (remaining R step limit ms) ≡ true
  unfolding remaining
  remaining-sound [] s = refl
  remaining-sound (a ∷ ms) s =
      let t = both (holdable R src limit a) (sound_after R src limit a ms) s in
      by (λ b. sound_messages R src limit (cond b (older R step a ∷ remaining R step limit ms) (remaining R step limit ms)) ≡ true) (young R limit (older R step a))
      (λ y. together (older-holdable a t.0 y) (after-remaining a ms t.1 y)) (λ n. remaining-sound ms (tail-sound R src limit a ms t.1))

-- ---- without the newest

module _ {A : Type 0} where
  -- one less, and never none
  length-others : (x : A) (xs : List A) → length (others x xs) ≡ length xs
  length-others x [] = refl
  length-others x (y ∷ ys) = ap suc (length-others y ys)

  pub spared-some : (ms : List A) → 1 ≤ length ms → 1 ≤ length (spared ms)
  spared-some [] h = h
  spared-some (x ∷ []) h = h
  spared-some (x ∷ y ∷ ys) h = omega arith

  pub spared-few : (ms : List A) → length (spared ms) ≤ length ms
  spared-few [] = omega arith
  spared-few (x ∷ []) = omega arith
  spared-few (x ∷ y ∷ ys) = omega (arith, length-others y ys)

module _ {A : Type 0} (R : Reads A) (src : PortIdentity) (limit : ℕ) where
  others-sound : (b a : A) (ms : List A) → sound_after R src limit b (a ∷ ms) ≡ true → sound_after R src limit b (others a ms) ≡ true
  others-sound b a [] s = refl
  others-sound b a (c ∷ ms) s =
      let t = both (holdable R src limit a && follows R b a) (sound_after R src limit a (c ∷ ms)) s in
      together t.0 (others-sound a c ms t.1)

  -- a list without its newest is sound
  pub spared-sound : (ms : List A) → sound_messages R src limit ms ≡ true → sound_messages R src limit (spared ms) ≡ true
  spared-sound [] s = s
  spared-sound (a ∷ []) s = s
  spared-sound (a ∷ b ∷ ms) s =
      let t = both (holdable R src limit a) (sound_after R src limit a (b ∷ ms)) s in
      together t.0 (others-sound a b ms t.1)
