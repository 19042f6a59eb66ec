-- A fact of every number below n, as one test that is computed over all of them.
-- Assumes nothing.
use Rattle.std.specs.Prelude.{ℕ, zero, suc, ◌<◌, ◌≡◌, refl, Bool, true, false, ◌&&◌, eqb}
use Rattle.std.proofs.Common.{not-suc-le-zero, arith, eqb-true}
use Rattle.std.proofs.lemmas.Bool.{eqb-false}

abbrev pub holds_below : (ℕ → Bool) → ℕ → Bool
holds_below p zero = true
holds_below p (suc n) = p n && holds_below p n

pub both : (x y : Bool) → x && y ≡ true → (x ≡ true) × (y ≡ true)
both true y e = (refl, e)
both false y e = let z : ◌≡◌ {A = ℕ} 0 1 = cc in absurd (omega arith)

pub below : (p : ℕ → Bool) (n : ℕ) → holds_below p n ≡ true → (b : ℕ) → b < n → p b ≡ true
below p zero t b h = absurd (not-suc-le-zero h)
below p (suc n) t b h = by_place (λ e l. below p n e b l) (eqb b n) refl
  where
    by_place : (holds_below p n ≡ true → b < n → p b ≡ true) → (s : Bool) → eqb b n ≡ s → p b ≡ true
    by_place ih true e = rw (eqb-true b n e) (both (p n) (holds_below p n) t).0
    by_place ih false e = ih (both (p n) (holds_below p n) t).1 (omega (arith, eqb-false b n e))

-- two functions that agree there
pub agree : (f g : ℕ → ℕ) (n : ℕ) → holds_below (λ (b : ℕ). eqb (f b) (g b)) n ≡ true → (b : ℕ) → b < n → f b ≡ g b
agree f g n t b h = eqb-true (f b) (g b) (below (λ (b : ℕ). eqb (f b) (g b)) n t b h)
