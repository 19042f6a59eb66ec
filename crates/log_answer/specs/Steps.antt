-- What is told, by its bytes, for the proofs of the code.
-- Assumes nothing.
use Rattle.std.specs.Prelude.{ℕ, zero, suc, ◌+◌, ◌*◌, ◌≤◌, ◌<◌, ◌≡◌, refl, take, drop, get_or, set}
use Rattle.std.proofs.Math.Path.{sym, ap}
use Rattle.std.proofs.Common.{◌∙◌, subst, add-one, arith, length-append, length-take-le, drop-cons, get_or-take}
use mathlib.Core.List.{List, [], ◌∷◌, map}
use Rattle.std.proofs.Math.Option.{Option, none, some}
use Rattle.std.proofs.Math.ListN.{length}
use Rattle.std.proofs.Math.Seq.{sets}
use Rattle.wire.specs.Refusal.{on_zero}
use Rattle.states.specs.declared.PortAnswer.{PortAnswer}
use Rattle.stored.specs.Calls.{StoreCall, exit_of, number_of, answers_to}
use Rattle.hex_line.specs.Hex.{hex_of, hex_all}
use Rattle.hex_line.proofs.HexLaws.{length-hex}
use Rattle.log_answer.specs.declared.Setup.{Setup}
use Rattle.log_answer.specs.declared.Answered.{Answered}
use Rattle.log_answer.specs.Answer.{Asked, state_byte, told_of, text_of, states_text, setup_of, store_of, out_of, answered_of, Answers}

-- ---- the text of an answer

-- a number alone
pub number-text : (out : List ℕ) (n : ℕ) → set (sets out 0 (hex_of n)) 2 10 ≡ sets out 0 (text_of (n ∷ []))
unfolding text_of hex_all
number-text out n = refl

pub length-text : (bytes : List ℕ) → length (text_of bytes) ≡ length bytes * 2 + 1
unfolding text_of
length-text bytes = length-append (hex_all bytes) (10 ∷ []) ∙ ap (λ (n : ℕ). n + 1) (length-hex bytes)

pub states-first : (out : List ℕ) (answers : List PortAnswer) → sets (sets out 0 (hex_of 0)) 2 (states_text answers) ≡ sets out 0 (text_of (0 ∷ map state_byte answers))
unfolding text_of hex_all states_text
states-first out answers = refl

pub states-next : (out : List ℕ) (xs : List PortAnswer) (ports i : ℕ) (d : PortAnswer) → i < ports → ports ≤ length xs
    → sets (sets out (2 + i * 2) (hex_of (state_byte (get_or xs i d)))) (2 + (i + 1) * 2) (states_text (drop (i + 1) (take ports xs))) ≡ sets out (2 + i * 2) (states_text (drop i (take ports xs)))
unfolding hex_all states_text
states-next out xs ports i d h l =
    let e : 2 + (i + 1) * 2 ≡ suc (suc (2 + i * 2)) = omega arith in
    rw (e, drop-cons (take ports xs) i d (omega (arith, length-take-le ports xs l)), get_or-take ports xs i d h, add-one i) refl

pub states-last : (out : List ℕ) (i : ℕ) → sets out i (states_text []) ≡ set out i 10
unfolding hex_all states_text
states-last out i = refl

-- ---- what the code answers and leaves, by the bytes that it tells

module _ (a : Option Asked) (setup : Setup) (s out : List ℕ) where
  pub tells : (bytes : List ℕ) → told_of a s ≡ bytes → (r : Answered) (s' out' : List ℕ) → r.setup ≡ setup_of a setup s → r.count ≡ length bytes * 2 + 1
      → s' ≡ store_of a s → out' ≡ sets out 0 (text_of bytes) → Answers a setup s out r s' out'
  unfolding answered_of out_of
  tells bytes e r s' out' set-up size words text =
      let long : r.count ≡ length (text_of (told_of a s)) = size ∙ sym (length-text bytes) ∙ ap (λ (bs : List ℕ). length (text_of bs)) (sym e) in
      ((λ i. record { setup = set-up i; count = long i }), words, text ∙ ap (λ (bs : List ℕ). sets out 0 (text_of bs)) (sym e))

-- what is answered to one thing asked is answered to the same
pub answers_by : (a b : Option Asked) → a ≡ b → (setup : Setup) (s out : List ℕ) (r : Answered) (s' out' : List ℕ) → Answers a setup s out r s' out' → Answers b setup s out r s' out'
answers_by a b e setup s out r s' out' h = subst (λ (x : Option Asked). Answers x setup s out r s' out') e h

-- an answer that is a number alone
pub told_as : (a b : Option Asked) → a ≡ b → (setup : Setup) (s out : List ℕ) (n : ℕ) → told_of a s ≡ n ∷ [] → (r : Answered) (s' out' : List ℕ) → r.setup ≡ setup_of a setup s
    → (r.count ≡ 3) × (out' ≡ sets out 0 (text_of (n ∷ []))) → s' ≡ store_of a s → Answers b setup s out r s' out'
told_as a b e setup s out n t r s' out' set-up h words =
    answers_by a b e setup s out r s' out' (tells a setup s out (n ∷ []) t r s' out' set-up h.0 words h.1)

-- a call that sets nothing up keeps what is
pub kept-setup : (n : ℕ) (setup : Setup) → setup ≡ on_zero n setup (λ _. setup)
kept-setup zero setup = refl
kept-setup (suc n) setup = refl

-- ---- an answer that is a number alone

module _ (setup : Setup) (s out : List ℕ) (r : Answered) (s' out' : List ℕ) (n : ℕ) (t : (r.setup ≡ setup) × (r.count ≡ 3) × (out' ≡ sets out 0 (text_of (n ∷ [])))) where
  -- a line of the wrong shape
  pub shapeless_told : (a : Option Asked) → none ≡ a → n ≡ 17 → s' ≡ s → Answers a setup s out r s' out'
  shapeless_told a way e words =
      told_as none a way setup s out n (ap (λ (k : ℕ). k ∷ []) (sym e)) r s' out' t.0 (t.1, t.2) words

  -- a call that sets nothing up and names no states
  pub call-told : (a : Option Asked) (c : StoreCall) → some (record { call = c; setup = setup }) ≡ a → answers_to c s ≡ [] → n ≡ number_of c s → s' ≡ exit_of c s → Answers a setup s out r s' out'
  call-told a c way calm e words =
      told_as (some (record { call = c; setup = setup })) a way setup s out n (ap (λ (l : List PortAnswer). number_of c s ∷ map state_byte l) calm ∙ ap (λ (k : ℕ). k ∷ []) (sym e)) r s' out'
      (t.0 ∙ kept-setup (number_of c s) setup) (t.1, t.2) words
