-- Two tests that hold together, and the two outcomes of a test.
-- Assumes nothing.
use Rattle.std.specs.Prelude.{◌≡◌, refl, Bool, true, false, ◌&&◌}

-- two tests that hold, hold together
pub together : {a b : Bool} → a ≡ true → b ≡ true → (a && b) ≡ true
together e f = simp (e, f)

-- a test's two outcomes
pub by : (P : Bool → Type 0) (b : Bool) → (b ≡ true → P true) → (b ≡ false → P false) → P b
by P true f g = f refl
by P false f g = g refl
