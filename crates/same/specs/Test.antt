-- Tests that say yes exactly of a value and itself: of a number, of a flag, of a signed number, and of a record by its fields.
-- Assumes nothing.
use Rattle.std.specs.Prelude.{ℕ, ◌^◌, ◌<◌, ◌≡◌, refl, Bool, true, false, ◌&&◌, List, [], ◌∷◌, eqb, ℤ}
use Rattle.std.proofs.Common.{sym, ap, ◌∙◌, eqb-true, eq-eqb, ne_eqb}
use Rattle.std.specs.Bool.{beq}
use Rattle.std.proofs.Math.Bool.{decide, decide_iff}
use Rattle.std.proofs.lemmas.Bool.{false≢true}
use Rattle.std.proofs.Math.IntN.{ℤ_discrete}
use Rattle.std.specs.Int.Signed.{mag}
use Rattle.std.specs.Int.{Width}
use mir.Val.{hbits, to_z, of_z}
use Rattle.std.proofs.lemmas.Int.{to_z-of_z}

pub record Test (A : Type 0) : Type 0 where
  pub same : A → A → Bool
  pub eq : (a b : A) → same a b ≡ true → a ≡ b
  pub self : (a : A) → same a a ≡ true

-- ---- the three kinds of a field that is no record

abbrev pub number : Test ℕ
number = record { same = eqb; eq = eqb-true; self = λ n. eq-eqb n n refl }

abbrev pub flag : Test Bool
flag = record { same = beq; eq = eq; self = self }
  where
    eq : (p q : Bool) → beq p q ≡ true → p ≡ q
    eq true true e = refl
    eq true false e = absurd (false≢true e)
    eq false true e = absurd (false≢true e)
    eq false false e = refl

    self : (p : Bool) → beq p p ≡ true
    self true = refl
    self false = refl

abbrev pub signed : Test ℤ
signed =
    record {
      same = λ y z. decide (ℤ_discrete y z);
      eq = λ y z. (decide_iff (ℤ_discrete y z)).0;
      self = λ z. (decide_iff (ℤ_discrete z z)).1 refl;
    }

-- the code compares the bits of numbers that fit
pub by_bits : (w : Width) {p q y z : ℤ} → p ≡ y → q ≡ z → mag p < 2 ^ hbits w → mag q < 2 ^ hbits w → eqb (of_z w p) (of_z w q) ≡ signed.same y z
unfolding decide
by_bits w {p} {q} {y} {z} e f h k = go (ℤ_discrete y z)
  where
    back : (x : ℤ) → mag x < 2 ^ hbits w → to_z w (of_z w x) ≡ x
    back x h = to_z-of_z w x (record { sfits = h })

    go : (d : Dec (y ≡ z)) → eqb (of_z w p) (of_z w q) ≡ decide d
    go (yes same) = eq-eqb (of_z w p) (of_z w q) (ap (of_z w) (e ∙ same ∙ sym f))
    go (no other) = ne_eqb (of_z w p) (of_z w q) (λ bits. other (sym e ∙ sym (back p h) ∙ ap (to_z w) bits ∙ back q k ∙ f))

-- ---- a record, by its fields

-- a field of an `A`, and the test of its type
pub record Field (A : Type 0) : Type 1 where
  pub Of : Type 0
  pub test : Test Of
  pub read : A → Of

abbrev pub by : {A B : Type 0} → Test B → (A → B) → Field A
by t f = record { Of = _; test = t; read = f }

-- whether `t` holds and all fields are the same
abbrev pub all : {A : Type 0} → Bool → List (Field A) → A → A → Bool
all t [] a b = t
all t (f ∷ fs) a b = all (t && f.test.same (f.read a) (f.read b)) fs a b

-- that the fields listed determine the record: their equations give its own
abbrev pub Determine : {A : Type 0} → List (Field A) → A → A → Type 0
Determine [] a b = a ≡ b
Determine (f ∷ fs) a b = f.read a ≡ f.read b → Determine fs a b

pub both : (p q : Bool) → (p && q) ≡ true → (p ≡ true) × (q ≡ true)
both true q e = (refl, e)
both false q e = absurd (false≢true e)

pub all-eq : {A : Type 0} (t : Bool) (fs : List (Field A)) (a b : A) → all t fs a b ≡ true → (t ≡ true) × (Determine fs a b → a ≡ b)
all-eq t [] a b e = (e, λ whole. whole)
all-eq t (f ∷ fs) a b e =
    let (h, later) = all-eq (t && f.test.same (f.read a) (f.read b)) fs a b e in
    let (old, new) = both t (f.test.same (f.read a) (f.read b)) h in
    (old, λ whole. later (whole (f.test.eq (f.read a) (f.read b) new)))

pub all-self : {A : Type 0} (fs : List (Field A)) (a : A) → all true fs a a ≡ true
all-self [] a = refl
all-self (f ∷ fs) a = rw (f.test.self (f.read a)) (all-self fs a)

-- the test of a record that the fields listed determine
abbrev pub by_fields : {A : Type 0} (fs : List (Field A)) → ((a b : A) → Determine fs a b) → Test A
by_fields fs whole = record { same = all true fs; eq = λ a b e. (all-eq true fs a b e).1 (whole a b); self = all-self fs }
