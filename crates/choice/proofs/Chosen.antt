-- Laws of a choice left to right, over any test.
-- Assumes nothing.
use Rattle.std.specs.Prelude.{◌≡◌, Bool, cond, Option, Some, None, option_map}
use Rattle.std.proofs.Math.Path.{refl, ap}
use Rattle.std.proofs.Common.{sym, ap₂, subst, ◌∙◌}
use Rattle.std.proofs.Math.Bool.{true, false}
use mathlib.Core.List.{List, [], ◌∷◌, ◌++◌, map, Memᴰ}
use Rattle.choice.specs.Choice.{keep, from, choose, joined, present, All, AllOf}

pub all_in : {A : Type 0} {P : A → Type 0} (xs : List A) → ((x : A) → Memᴰ x xs → P x) → All P xs
all_in [] f = tt
all_in (x ∷ xs) f = (f x (Memᴰ.head refl), all_in xs (λ y m. f y (Memᴰ.tail m)))

pub all-at : {A : Type 0} (P : A → Type 0) (x : A) (xs : List A) → All P xs → Memᴰ x xs → P x
all-at P x xs ps (Memᴰ.head e) = subst P (sym e) ps.0
all-at P x xs ps (Memᴰ.tail {xs = ys} m) = all-at P x ys ps.1 m

-- strict and total up to ties: what is not above one that is not above a third is not above the third either
pub record Weak {A : Type 0} (above : A → A → Bool) : Type 0 where
  pub irrefl : (a : A) → above a a ≡ false
  pub trans : (a b c : A) → above a b ≡ true → above b c ≡ true → above a c ≡ true
  pub cotrans : (a b c : A) → above a b ≡ false → above b c ≡ false → above a c ≡ false

pub weak_by : {A B : Type 0} (key : A → B) {above : B → B → Bool} → Weak above → Weak (λ a b. above (key a) (key b))
weak_by key w =
    record {
      irrefl = λ a. w.irrefl (key a);
      trans = λ a b c. w.trans (key a) (key b) (key c);
      cotrans = λ a b c. w.cotrans (key a) (key b) (key c);
    }

module _ {A : Type 0} (above : A → A → Bool) where
  pub from-append : (h : A) (xs ys : List A) → from above h (xs ++ ys) ≡ from above (from above h xs) ys
  unfolding from
  from-append h [] ys = refl
  from-append h (x ∷ xs) ys = from-append (keep above h x) xs ys

module _ {A : Type 0} {above : A → A → Bool} (w : Weak above) where
  keep_assoc : (a b c : A) → keep above (keep above a b) c ≡ keep above a (keep above b c)
  keep_assoc a b c = go (above a b) (above b c) refl refl
    where
      go : (p q : Bool) → above a b ≡ p → above b c ≡ q → keep above (keep above a b) c ≡ keep above a (keep above b c)
      go true true e f = simp (e, f, w.trans a b c e f)
      go true false e f = simp (e, f)
      go false true e f = simp (e, f)
      go false false e f = simp (e, f, w.cotrans a b c e f)

  from-keep : (h x : A) (xs : List A) → from above (keep above h x) xs ≡ keep above h (from above x xs)
  unfolding from
  from-keep h x [] = refl
  from-keep h x (y ∷ ys) = ap (λ z. from above z ys) (keep_assoc h x y) ∙ from-keep h (keep above x y) ys

  from-joined : (h : A) (xss : List (List A)) → from above h (joined xss) ≡ from above h (present (map (choose above) xss))
  unfolding from choose
  from-joined h [] = refl
  from-joined h ([] ∷ xss) = from-joined h xss
  from-joined h ((x ∷ xs) ∷ xss) =
      from-append above (keep above h x) xs (joined xss)
      ∙ from-joined (from above (keep above h x) xs) xss
      ∙ ap (λ z. from above z (present (map (choose above) xss))) (from-keep h x xs)

  -- choosing once over all lists, and choosing in each list and then among those chosen
  pub choose-joined : (xss : List (List A)) → choose above (joined xss) ≡ choose above (present (map (choose above) xss))
  unfolding from choose
  choose-joined [] = refl
  choose-joined ([] ∷ xss) = choose-joined xss
  choose-joined ((x ∷ xs) ∷ xss) = ap Some (from-append above x xs (joined xss) ∙ from-joined (from above x xs) xss)

  -- nothing is above the one chosen
  above-false : (a b c : A) → above (keep above a b) c ≡ false → (above a c ≡ false) × (above b c ≡ false)
  above-false a b c n = go (above a b) (above b c) refl refl
    where
      go : (p q : Bool) → above a b ≡ p → above b c ≡ q → (above a c ≡ false) × (above b c ≡ false)
      go true true e f = let m : above a c ≡ true = w.trans a b c e f in let k : above a c ≡ false = simp e at n in (k, cc)
      go true false e f = (simp e at n, f)
      go false q e f = let k : above b c ≡ false = simp e at n in (w.cotrans a b c e k, k)

  pub from-top : (h : A) (xs : List A) → All (λ x. above x (from above h xs) ≡ false) (h ∷ xs)
  unfolding from
  from-top h [] = (w.irrefl h, tt)
  from-top h (x ∷ xs) =
      let t = from-top (keep above h x) xs in
      let b = above-false h x (from above (keep above h x) xs) t.0 in
      (b.0, (b.1, t.1))

  pub choose-top : (xs : List A) → AllOf (λ w. All (λ x. above x w ≡ false) xs) (choose above xs)
  unfolding choose
  choose-top [] = tt
  choose-top (x ∷ xs) = from-top x xs

-- What holds of all candidates holds of the one chosen.
module _ {A : Type 0} (P : A → Type 0) (above : A → A → Bool) where
  keep_has : (t : Bool) (a b : A) → P a → P b → P (cond t a b)
  keep_has true a b p q = p
  keep_has false a b p q = q

  pub from_has : (h : A) (xs : List A) → P h → All P xs → P (from above h xs)
  unfolding from
  from_has h [] p ps = p
  from_has h (x ∷ xs) p ps = from_has (keep above h x) xs (keep_has (above h x) h x p ps.0) ps.1

  pub choose_has : (xs : List A) → All P xs → AllOf P (choose above xs)
  unfolding choose
  choose_has [] ps = tt
  choose_has (x ∷ xs) ps = from_has x xs ps.0 ps.1

-- Two tests that agree on what they meet choose alike. P is what is known of each element.
module _ {A : Type 0} {P : A → Type 0} {f g : A → A → Bool} (agree : (a b : A) → P a → P b → f a b ≡ g a b) where
  from-agree : (h : A) (xs : List A) → P h → All P xs → from f h xs ≡ from g h xs
  unfolding from
  from-agree h [] p ps = refl
  from-agree h (x ∷ xs) p ps =
      from-agree (keep f h x) xs (keep_has P f (f h x) h x p ps.0) ps.1
      ∙ ap (λ t. from g (cond t h x) xs) (agree h x p ps.0)

  pub choose-agree : (xs : List A) → All P xs → choose f xs ≡ choose g xs
  unfolding choose
  choose-agree [] ps = refl
  choose-agree (x ∷ xs) ps = ap Some (from-agree x xs ps.0 ps.1)

-- of several lists: what holds of each element of all of them
pub all_append : {A : Type 0} (P : A → Type 0) (xs ys : List A) → All P (xs ++ ys) → All P xs × All P ys
all_append P [] ys ps = (tt, ps)
all_append P (x ∷ xs) ys ps = let r = all_append P xs ys ps.1 in ((ps.0, r.0), r.1)

pub all-joined : {A : Type 0} (P : A → Type 0) (xss : List (List A)) → All P (joined xss) → All (All P) xss
all-joined P [] ps = tt
all-joined P (xs ∷ xss) ps = let r = all_append P xs (joined xss) ps in (r.0, all-joined P xss r.1)

pub all-present : {A : Type 0} (P : A → Type 0) (os : List (Option A)) → All (AllOf P) os → All P (present os)
all-present P [] ps = tt
all-present P (None ∷ os) ps = all-present P os ps.1
all-present P (Some x ∷ os) ps = (ps.0, all-present P os ps.1)

pub all_map : {A B : Type 0} (P : A → Type 0) (Q : B → Type 0) (f : A → B) → ((a : A) → P a → Q (f a)) → (xs : List A) → All P xs → All Q (map f xs)
all_map P Q f imp [] ps = tt
all_map P Q f imp (x ∷ xs) ps = (imp x ps.0, all_map P Q f imp xs ps.1)

pub map-agree : {A B : Type 0} (P : A → Type 0) (f g : A → B) → ((a : A) → P a → f a ≡ g a) → (xs : List A) → All P xs → map f xs ≡ map g xs
map-agree P f g e [] ps = refl
map-agree P f g e (x ∷ xs) ps = ap₂ ◌∷◌ (e x ps.0) (map-agree P f g e xs ps.1)

-- Where a test agrees with a weak order on all candidates, choosing per list and then among those chosen is choosing once.
module _ {A : Type 0} {P : A → Type 0} {f g : A → A → Bool} (agree : (a b : A) → P a → P b → f a b ≡ g a b) (w : Weak g) where
  pub choose-once : (xss : List (List A)) → All P (joined xss) → choose f (joined xss) ≡ choose f (present (map (choose f) xss))
  choose-once xss ps =
      choose-agree agree (joined xss) ps
      ∙ choose-joined w xss
      ∙ ap (λ os. choose g (present os)) (sym (map-agree (All P) (choose f) (choose g) (λ xs. choose-agree agree xs) xss each))
      ∙ sym (choose-agree agree (present (map (choose f) xss)) (all-present P (map (choose f) xss) (all_map (All P) (AllOf P) (choose f) (choose_has P f) xss each)))
    where
      each : All (All P) xss
      each = all-joined P xss ps

-- A choice by what each element shows is the choice among what they show.
module _ {A B : Type 0} (f : A → B) (above : B → B → Bool) where
  keep-map : (t : Bool) (a b : A) → cond t (f a) (f b) ≡ f (cond t a b)
  keep-map true a b = refl
  keep-map false a b = refl

  from-map : (h : A) (xs : List A) → from above (f h) (map f xs) ≡ f (from (λ a b. above (f a) (f b)) h xs)
  unfolding from
  from-map h [] = refl
  from-map h (x ∷ xs) = ap (λ y. from above y (map f xs)) (keep-map (above (f h) (f x)) h x) ∙ from-map (keep (λ a b. above (f a) (f b)) h x) xs

  pub choose-map : (xs : List A) → choose above (map f xs) ≡ option_map f (choose (λ a b. above (f a) (f b)) xs)
  unfolding choose
  choose-map [] = refl
  choose-map (x ∷ xs) = ap Some (from-map x xs)

-- Where the one chosen stands: it is above each that comes after it, so of equals it is the last.
module _ {A : Type 0} (above : A → A → Bool) where
  pub data Last : List A → A → Type 0 where
    here : {w : A} {xs : List A} → All (λ x. above w x ≡ true) xs → Last (w ∷ xs) w
    later : {w x : A} {xs : List A} → Last xs w → Last (x ∷ xs) w

  last-beside : (w h x : A) (xs : List A) → above h x ≡ true → Last (h ∷ xs) w → Last (h ∷ (x ∷ xs)) w
  last-beside w h x xs e (here a) = here {xs = x ∷ xs} (e, a)
  last-beside w h x xs e (later l) = later (later l)

  from_last : (h : A) (xs : List A) → Last (h ∷ xs) (from above h xs)
  unfolding from
  from_last h [] = here tt
  from_last h (x ∷ xs) = go (above h x) refl (from_last h xs) (from_last x xs)
    where
      go : (t : Bool) → above h x ≡ t → Last (h ∷ xs) (from above h xs) → Last (x ∷ xs) (from above x xs) → Last (h ∷ (x ∷ xs)) (from above (cond (above h x) h x) xs)
      go true e s t = rw e (last-beside (from above h xs) h x xs e s)
      go false e s t = rw e (later t)

  pub choose-last : (xs : List A) → AllOf (Last xs) (choose above xs)
  unfolding choose
  choose-last [] = tt
  choose-last (x ∷ xs) = from_last x xs
