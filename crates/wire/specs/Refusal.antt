-- Refusals come first, as one number: what is said where it is 0, and what where it is that of a refusal.
-- Assumes nothing.
use Rattle.std.specs.Prelude.{ℕ, zero, suc, ◌≡◌, refl}

abbrev pub on_zero : {A : Type 0} → ℕ → A → (ℕ → A) → A
on_zero zero done refused = done
on_zero (suc n) done refused = refused (suc n)

pub on-done : {A : Type 0} (n : ℕ) (done : A) (refused : ℕ → A) → n ≡ 0 → on_zero n done refused ≡ done
on-done n done refused e = rw e

pub on-refused : {A : Type 0} (n : ℕ) (done : A) (refused : ℕ → A) → (n ≡ 0 → ⊥) → on_zero n done refused ≡ refused n
on-refused zero done refused h = absurd (h refl)
on-refused (suc n) done refused h = refl

-- what is made of either
pub on_both : {A B : Type 0} (f : A → B) (n : ℕ) (done : A) (refused : ℕ → A) → f (on_zero n done refused) ≡ on_zero n (f done) (λ k. f (refused k))
on_both f zero done refused = refl
on_both f (suc n) done refused = refl
