-- A refusal and its number in paper 01's table, and a result by the number of its refusal, 0 for done.
-- Assumes nothing.
use Rattle.std.specs.Prelude.{ℕ, cond, eqb, Result, Ok, Err}
use Rattle.std.proofs.Math.Option.{Option, none, some}
use Rattle.refused.specs.declared.Refusal.{Refusal}
use Rattle.refused.specs.declared.Refusal.TheVariants.{Short, ReservedType, LengthField, OddTlv, NoAnnounce, NoPort, OwnPort, NotAcceptable, OwnClock, Sequence, Steps, NinthMaster, LongStep, OutOfRange, Unfit, Unsound, WrongLine}

abbrev pub number_of : Refusal → ℕ
number_of Short = 1
number_of ReservedType = 2
number_of LengthField = 3
number_of OddTlv = 4
number_of NoAnnounce = 5
number_of NoPort = 6
number_of OwnPort = 7
number_of NotAcceptable = 8
number_of OwnClock = 9
number_of Sequence = 10
number_of Steps = 11
number_of NinthMaster = 12
number_of LongStep = 13
number_of OutOfRange = 14
number_of Unfit = 15
number_of Unsound = 16
number_of WrongLine = 17

-- the refusal of a number
abbrev pub of_number : ℕ → Refusal
of_number n =
    cond (eqb n 1) Short (cond (eqb n 2) ReservedType (cond (eqb n 3) LengthField (cond (eqb n 4) OddTlv (cond (eqb n 5) NoAnnounce
    (cond (eqb n 6) NoPort (cond (eqb n 7) OwnPort (cond (eqb n 8) NotAcceptable (cond (eqb n 9) OwnClock (cond (eqb n 10) Sequence
    (cond (eqb n 11) Steps (cond (eqb n 12) NinthMaster (cond (eqb n 13) LongStep (cond (eqb n 14) OutOfRange (cond (eqb n 15) Unfit
    (cond (eqb n 16) Unsound WrongLine)))))))))))))))

-- a result that is the refusal of a number
abbrev pub refused : {A : Type 0} → ℕ → Result A Refusal
refused n = Err (of_number n)

-- the number of a result with no value, 0 for done
abbrev pub number_in : Result Unit Refusal → ℕ
number_in (Ok u) = 0
number_in (Err e) = number_of e

-- the number of a result, 0 for done, and the value that it holds
abbrev pub answer_of : {A : Type 0} → Result A Refusal → ℕ × Option A
answer_of (Ok a) = (0, some a)
answer_of (Err e) = (number_of e, none)
