-- What it is that a contract leaves one answer. A contract is taken as the function's callers learn it: a statement of lifetimes,
-- arguments, an answer and what was lent, at exit.
-- Assumes nothing.
use Rattle.std.specs.Prelude.{ℕ, ◌≡◌, refl, List, Result, Ok, Err}
use Rattle.std.proofs.Common.{sym, ap, ◌∙◌, arith}
use Rattle.refused.specs.declared.Refusal.{Refusal}
use Rattle.refused.specs.Refusal.{of_number, number_in}
use Rattle.refused.proofs.Laws.{of-number, number-positive}

module _ {K : Type 0} {Args Answer Exit : K → Type 0} (says : (κs : K) → Args κs → Answer κs → Exit κs → Type 0) where
  -- any two answers that it allows for the same arguments are identical
  abbrev pub OneAnswer : Type 0
  OneAnswer = (κs : K) (a : Args κs) (z z' : Answer κs) (e e' : Exit κs) → says κs a z e → says κs a z' e' → z ≡ z'

  -- and so are the bytes or words that were lent, afterwards
  abbrev pub OneAnswerAndExit : ((κs : K) → Exit κs → List ℕ) → Type 0
  OneAnswerAndExit lent =
      (κs : K) (a : Args κs) (z z' : Answer κs) (e e' : Exit κs) → says κs a z e → says κs a z' e' → (z ≡ z') × (lent κs e ≡ lent κs e')

-- two that are equal to one thing
pub alike : {A : Type 0} {x y z : A} → x ≡ z → y ≡ z → x ≡ y
alike p q = p ∙ sym q

-- a result with no value is known by its number
same-number : (x y : Result Unit Refusal) → number_in x ≡ number_in y → x ≡ y
same-number (Ok u) (Ok v) e = refl
same-number (Ok u) (Err f) e = absurd (omega (arith, number-positive f, e))
same-number (Err e) (Ok v) h = absurd (omega (arith, number-positive e, h))
same-number (Err e) (Err f) h = ap (λ (d : Refusal). Err d) (sym (of-number e) ∙ ap of_number h ∙ of-number f)

pub alike-number : {x y : Result Unit Refusal} {n : ℕ} → number_in x ≡ n → number_in y ≡ n → x ≡ y
alike-number {x = x} {y = y} p q = same-number x y (alike p q)
