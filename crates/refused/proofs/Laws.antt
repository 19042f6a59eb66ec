-- A refusal and its number determine one another.
-- Assumes nothing.
use Rattle.std.specs.Prelude.{ℕ, zero, suc, ◌<◌, ◌≤◌, ◌≡◌, refl, Result, Ok, Err, is_ok, eqb}
use Rattle.std.proofs.Common.{ap, arith}
use Rattle.std.proofs.Math.Option.{Option, some, none}
use Rattle.wire.specs.Refusal.{on_zero}
use Rattle.refused.specs.declared.Refusal.{Refusal}
use Rattle.refused.specs.declared.Refusal.TheVariants.{Short, ReservedType, LengthField, OddTlv, NoAnnounce, NoPort, OwnPort, NotAcceptable, OwnClock, Sequence, Steps, NinthMaster, LongStep, OutOfRange, Unfit, Unsound, WrongLine}
use Rattle.refused.specs.Refusal.{number_of, of_number, number_in, refused, answer_of}

pub of-number : (e : Refusal) → of_number (number_of e) ≡ e
of-number Short = refl
of-number ReservedType = refl
of-number LengthField = refl
of-number OddTlv = refl
of-number NoAnnounce = refl
of-number NoPort = refl
of-number OwnPort = refl
of-number NotAcceptable = refl
of-number OwnClock = refl
of-number Sequence = refl
of-number Steps = refl
of-number NinthMaster = refl
of-number LongStep = refl
of-number OutOfRange = refl
of-number Unfit = refl
of-number Unsound = refl
of-number WrongLine = refl

pub number-positive : (e : Refusal) → 0 < number_of e
number-positive Short = omega arith
number-positive ReservedType = omega arith
number-positive LengthField = omega arith
number-positive OddTlv = omega arith
number-positive NoAnnounce = omega arith
number-positive NoPort = omega arith
number-positive OwnPort = omega arith
number-positive NotAcceptable = omega arith
number-positive OwnClock = omega arith
number-positive Sequence = omega arith
number-positive Steps = omega arith
number-positive NinthMaster = omega arith
number-positive LongStep = omega arith
number-positive OutOfRange = omega arith
number-positive Unfit = omega arith
number-positive Unsound = omega arith
number-positive WrongLine = omega arith

pub number-le : (e : Refusal) → number_of e ≤ 17
number-le Short = omega arith
number-le ReservedType = omega arith
number-le LengthField = omega arith
number-le OddTlv = omega arith
number-le NoAnnounce = omega arith
number-le NoPort = omega arith
number-le OwnPort = omega arith
number-le NotAcceptable = omega arith
number-le OwnClock = omega arith
number-le Sequence = omega arith
number-le Steps = omega arith
number-le NinthMaster = omega arith
number-le LongStep = omega arith
number-le OutOfRange = omega arith
number-le Unfit = omega arith
number-le Unsound = omega arith
number-le WrongLine = omega arith

-- the result with the number of a refusal is that refusal
pub refused-number : {A : Type 0} (e : Refusal) → ◌≡◌ {A = Result A Refusal} (Err e) (refused (number_of e))
refused-number e = rw (of-number e)

-- the table ends at 17
pub number-of : (n : ℕ) → n < 17 → number_of (of_number (suc n)) ≡ suc n
number-of zero h = refl
number-of (suc zero) h = refl
number-of (suc (suc zero)) h = refl
number-of (suc (suc (suc zero))) h = refl
number-of (suc (suc (suc (suc zero)))) h = refl
number-of (suc (suc (suc (suc (suc zero))))) h = refl
number-of (suc (suc (suc (suc (suc (suc zero)))))) h = refl
number-of (suc (suc (suc (suc (suc (suc (suc zero))))))) h = refl
number-of (suc (suc (suc (suc (suc (suc (suc (suc zero)))))))) h = refl
number-of (suc (suc (suc (suc (suc (suc (suc (suc (suc zero))))))))) h = refl
number-of (suc (suc (suc (suc (suc (suc (suc (suc (suc (suc zero)))))))))) h = refl
number-of (suc (suc (suc (suc (suc (suc (suc (suc (suc (suc (suc zero))))))))))) h = refl
number-of (suc (suc (suc (suc (suc (suc (suc (suc (suc (suc (suc (suc zero)))))))))))) h = refl
number-of (suc (suc (suc (suc (suc (suc (suc (suc (suc (suc (suc (suc (suc zero))))))))))))) h = refl
number-of (suc (suc (suc (suc (suc (suc (suc (suc (suc (suc (suc (suc (suc (suc zero)))))))))))))) h = refl
number-of (suc (suc (suc (suc (suc (suc (suc (suc (suc (suc (suc (suc (suc (suc (suc zero))))))))))))))) h = refl
number-of (suc (suc (suc (suc (suc (suc (suc (suc (suc (suc (suc (suc (suc (suc (suc (suc zero)))))))))))))))) h = refl
number-of (suc (suc (suc (suc (suc (suc (suc (suc (suc (suc (suc (suc (suc (suc (suc (suc (suc n))))))))))))))))) h = absurd (omega (arith, h))

-- an answer in the paper's numbers
pub answer-number : {A : Type 0} (n : ℕ) (a : A) → n ≤ 17 → answer_of (on_zero n (Ok a) refused) ≡ on_zero n (0, some a) (λ k. (k, none))
answer-number zero a h = refl
answer-number {A = A} (suc n) a h = let o : Option A = none in ap (λ (k : ℕ). (k, o)) (number-of n (omega (arith, h)))

-- a result with no value is done where its number is 0
pub done-number : (r : Result Unit Refusal) → is_ok r ≡ eqb (number_in r) 0
done-number (Ok u) = refl
done-number (Err Short) = refl
done-number (Err ReservedType) = refl
done-number (Err LengthField) = refl
done-number (Err OddTlv) = refl
done-number (Err NoAnnounce) = refl
done-number (Err NoPort) = refl
done-number (Err OwnPort) = refl
done-number (Err NotAcceptable) = refl
done-number (Err OwnClock) = refl
done-number (Err Sequence) = refl
done-number (Err Steps) = refl
done-number (Err NinthMaster) = refl
done-number (Err LongStep) = refl
done-number (Err OutOfRange) = refl
done-number (Err Unfit) = refl
done-number (Err Unsound) = refl
done-number (Err WrongLine) = refl
