-- The laws of `cmp` and `lex`. `Stand xs ys o` says why two rows stand as o: a proof goes by its six cases, and a function's return
-- finds one by `search stands`.
-- Assumes nothing.
use Rattle.std.specs.Prelude.{◌≡◌, ℕ, ◌<◌, ◌≤◌, List, [], ◌∷◌, nat_lt}
use Rattle.std.specs.Prelude.{refl}
use Rattle.std.proofs.Common.{ap₂, le_of_lt, le_antisymm, le_trans, lt_trans, lt_of_lt_of_le, lt_of_le_of_lt, le_refl, arith, lt-ltb, le-ltb, eq-eqb, ne_eqb}
use Rattle.std.specs.Ordering.{nat_cmp, ordering_then, is_lt, is_gt}
use Rattle.std.proofs.Math.Decide.{dec_lt}
use Rattle.std.specs.declared.cmp.Ordering.{Ordering}
use Rattle.std.specs.declared.cmp.Ordering.TheVariants.{Less, Equal, Greater}
use Rattle.order.specs.Order.{three, cmp, then_by, lex, flip, is_less, is_greater}

-- the words of the library, of which the contracts of `cmp`, `then` and `is_gt` speak
pub cmp-library : (a b : ℕ) → nat_cmp a b ≡ cmp a b
unfolding cmp
cmp-library a b = go (dec_lt a b) (dec_lt b a)
  where
    go : Dec (a < b) → Dec (b < a) → nat_cmp a b ≡ three (nat_lt a b) (nat_lt b a)
    go (yes h) d = simp (lt-ltb a b h)
    go (no h) (yes k) = simp (le-ltb a b (le_of_lt k), lt-ltb b a k, ne_eqb a b (λ e. omega arith))
    go (no h) (no k) = simp (le-ltb a b (omega arith), le-ltb b a (omega arith), eq-eqb a b (omega arith))

pub then-library : (o p : Ordering) → ordering_then o p ≡ then_by o p
then-library Less p = refl
then-library Equal p = refl
then-library Greater p = refl

pub less-library : (o : Ordering) → is_lt o ≡ is_less o
less-library Less = refl
less-library Equal = refl
less-library Greater = refl

pub greater-library : (o : Ordering) → is_gt o ≡ is_greater o
greater-library Less = refl
greater-library Equal = refl
greater-library Greater = refl

pub cmp_less : (a b : ℕ) → a < b → cmp a b ≡ Less
unfolding cmp
cmp_less a b h = simp (lt-ltb a b h)

pub cmp_greater : (a b : ℕ) → b < a → cmp a b ≡ Greater
unfolding cmp
cmp_greater a b h = simp (le-ltb a b (le_of_lt h), lt-ltb b a h)

pub cmp_equal : (a b : ℕ) → a ≤ b → b ≤ a → cmp a b ≡ Equal
unfolding cmp
cmp_equal a b h k = simp (le-ltb a b k, le-ltb b a h)

-- two numbers, with their order
pub data Two (a b : ℕ) : Type 0 where
  lt : a < b → Two a b
  eq : a ≤ b → b ≤ a → Two a b
  gt : b < a → Two a b

pub two : (a b : ℕ) → Two a b
two a b = go (dec_lt a b) (dec_lt b a)
  where
    go : Dec (a < b) → Dec (b < a) → Two a b
    go (yes h) d = lt h
    go (no h) (yes k) = gt k
    go (no h) (no k) = eq (omega arith) (omega arith)

pub cmp-flip : (a b : ℕ) → flip (cmp a b) ≡ cmp b a
cmp-flip a b = go (two a b)
  where
    go : Two a b → flip (cmp a b) ≡ cmp b a
    go (lt h) = rw (cmp_less a b h, cmp_greater b a h)
    go (eq h k) = rw (cmp_equal a b h k, cmp_equal b a k h)
    go (gt h) = rw (cmp_greater a b h, cmp_less b a h)

pub data Stand : List ℕ → List ℕ → Ordering → Type 0 where
  ends : Stand [] [] Equal
  short : {y : ℕ} {ys : List ℕ} → Stand [] (y ∷ ys) Less
  long : {x : ℕ} {xs : List ℕ} → Stand (x ∷ xs) [] Greater
  lower : {x y : ℕ} {xs ys : List ℕ} → x < y → Stand (x ∷ xs) (y ∷ ys) Less
  higher : {x y : ℕ} {xs ys : List ℕ} → y < x → Stand (x ∷ xs) (y ∷ ys) Greater
  skip : {x y : ℕ} {xs ys : List ℕ} {o : Ordering} → x ≤ y → y ≤ x → Stand xs ys o → Stand (x ∷ xs) (y ∷ ys) o

pub ruleset stands = (ends, lower, higher, skip)

pub stand-lex : {xs ys : List ℕ} {o : Ordering} → Stand xs ys o → lex xs ys ≡ o
unfolding lex
stand-lex ends = refl
stand-lex short = refl
stand-lex long = refl
stand-lex (lower {x = x} {y = y} h) = rw (cmp_less x y h)
stand-lex (higher {x = x} {y = y} h) = rw (cmp_greater x y h)
stand-lex (skip {x = x} {y = y} h k s) = rw (cmp_equal x y h k) (stand-lex s)

pub stand : (xs ys : List ℕ) → Stand xs ys (lex xs ys)
unfolding lex
stand [] [] = ends
stand [] (y ∷ ys) = short
stand (x ∷ xs) [] = long
stand (x ∷ xs) (y ∷ ys) = go (two x y) (stand xs ys)
  where
    go : Two x y → Stand xs ys (lex xs ys) → Stand (x ∷ xs) (y ∷ ys) (then_by (cmp x y) (lex xs ys))
    go (lt h) s = rw (cmp_less x y h) (lower h)
    go (eq h k) s = rw (cmp_equal x y h k) (skip h k s)
    go (gt h) s = rw (cmp_greater x y h) (higher h)

-- a function of how two rows stand, for a return that can show why
pub decided : {A : Type 0} (f : Ordering → A) (o : Ordering) {xs ys : List ℕ} → Stand xs ys o → f o ≡ f (lex xs ys)
decided f o s = rw (stand-lex s)

pub stand-flip : {xs ys : List ℕ} {o : Ordering} → Stand xs ys o → Stand ys xs (flip o)
stand-flip ends = ends
stand-flip short = long
stand-flip long = short
stand-flip (lower h) = higher h
stand-flip (higher h) = lower h
stand-flip (skip h k s) = skip k h (stand-flip s)

pub lex-flip : (xs ys : List ℕ) → lex ys xs ≡ flip (lex xs ys)
lex-flip xs ys = stand-lex (stand-flip (stand xs ys))

pub stand_equal : {xs ys : List ℕ} → Stand xs ys Equal → xs ≡ ys
stand_equal ends = refl
stand_equal (skip h k s) = ap₂ ◌∷◌ (le_antisymm h k) (stand_equal s)

pub stand-trans : {xs ys zs : List ℕ} → Stand xs ys Less → Stand ys zs Less → Stand xs zs Less
stand-trans short (lower k) = short
stand-trans short (skip k k' t) = short
stand-trans (lower h) (lower k) = lower (lt_trans h k)
stand-trans (lower h) (skip k k' t) = lower (lt_of_lt_of_le h k)
stand-trans (skip h h' s) (lower k) = lower (lt_of_le_of_lt h k)
stand-trans (skip h h' s) (skip k k' t) = skip (le_trans h k) (le_trans k' h') (stand-trans s t)

pub stand-refl : (xs : List ℕ) → Stand xs xs Equal
stand-refl [] = ends
stand-refl (x ∷ xs) = skip (le_refl x) (le_refl x) (stand-refl xs)

pub then_by_assoc : (o p q : Ordering) → then_by (then_by o p) q ≡ then_by o (then_by p q)
then_by_assoc Less p q = refl
then_by_assoc Equal p q = refl
then_by_assoc Greater p q = refl

pub then_by_equal : (o : Ordering) → then_by o Equal ≡ o
then_by_equal Less = refl
then_by_equal Equal = refl
then_by_equal Greater = refl

-- rows of two
pub lex-two : (a b x y : ℕ) → lex (a ∷ b ∷ []) (x ∷ y ∷ []) ≡ then_by (cmp a x) (cmp b y)
unfolding lex
lex-two a b x y = simp then_by_equal
