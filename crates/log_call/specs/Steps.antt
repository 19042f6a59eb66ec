-- Each way through the answers to the lines `01` and `02`, for the proofs of the code.
-- Assumes nothing.
use Rattle.std.specs.Prelude.{ℕ, ◌-◌, ◌≤◌, ◌<◌, ◌≡◌, List, [], ◌∷◌, length, take, drop, get_or}
use Rattle.std.proofs.Math.Path.{refl}
use Rattle.std.proofs.Common.{ap, ◌∙◌, arith, eq-eqb, ne_eqb, le-leb, length-drop, take_all}
use Rattle.std.proofs.Math.Option.{none, some}
use Rattle.std.proofs.lemmas.Bool.{lt-leb}
use Rattle.std.proofs.lemmas.List.Edits.{sets}
use Rattle.wire.specs.Be.{be_at}
use Rattle.stored.specs.Calls.{StoreCall, register_frame, step_age, exit_of, number_of}
use Rattle.log_answer.specs.declared.Setup.{Setup}
use Rattle.log_answer.specs.declared.Answered.{Answered}
use Rattle.log_answer.specs.Answer.{text_of, Answers}
use Rattle.log_answer.specs.Steps.{call-told}
use Rattle.log_call.specs.Call.{frame_asked, step_asked}

-- ---- what they ask

module _ (setup : Setup) (line : List ℕ) where
  pub frame_short : length line < 2 → none ≡ frame_asked setup line
  unfolding frame_asked
  frame_short h = rw (lt-leb 2 (length line) h) refl

  pub frame_right : 2 ≤ length line → some (record { call = register_frame (get_or line 1 0) (drop 2 line); setup = setup }) ≡ frame_asked setup line
  unfolding frame_asked
  frame_right h = rw (le-leb 2 (length line) h) refl

  pub step_other : (length line ≡ 9 → ⊥) → none ≡ step_asked setup line
  unfolding step_asked
  step_other h = rw (ne_eqb (length line) 9 h) refl

  pub step_right : length line ≡ 9 → some (record { call = step_age (be_at line 1 8); setup = setup }) ≡ step_asked setup line
  unfolding step_asked
  step_right h = rw (eq-eqb (length line) 9 h) refl

-- ---- what a frame and a step tell

-- the rest of a line, as it is lent
to_end : (a : ℕ) (l : List ℕ) → take (length l - a) (drop a l) ≡ drop a l
to_end a l = take_all (length l - a) (drop a l) (omega (arith, length-drop a l))

module _ (setup : Setup) (line s out : List ℕ) (r : Answered) (s' out' : List ℕ) (n : ℕ) (t : (r.setup ≡ setup) × (r.count ≡ 3) × (out' ≡ sets out 0 (text_of (n ∷ [])))) where
  pub frame_told : (port : ℕ) → 2 ≤ length line → port ≡ get_or line 1 0 → n ≡ number_of (register_frame port (take (length line - 2) (drop 2 line))) s
      → s' ≡ exit_of (register_frame port (take (length line - 2) (drop 2 line))) s → Answers (frame_asked setup line) setup s out r s' out'
  frame_told port h p e words =
      let same : register_frame port (take (length line - 2) (drop 2 line)) ≡ register_frame (get_or line 1 0) (drop 2 line) =
      ap (λ (k : ℕ). register_frame k (take (length line - 2) (drop 2 line))) p ∙ ap (register_frame (get_or line 1 0)) (to_end 2 line) in
      call-told setup s out r s' out' n t (frame_asked setup line) (register_frame (get_or line 1 0) (drop 2 line)) (frame_right setup line h) refl (e ∙ ap (λ (c : StoreCall). number_of c s) same) (words ∙ ap (λ (c : StoreCall). exit_of c s) same)

  pub step-told : (step : ℕ) → length line ≡ 9 → step ≡ be_at line 1 8 → n ≡ number_of (step_age step) s → s' ≡ exit_of (step_age step) s → Answers (step_asked setup line) setup s out r s' out'
  step-told step h p e words =
      call-told setup s out r s' out' n t (step_asked setup line) (step_age (be_at line 1 8)) (step_right setup line h) refl (e ∙ ap (λ (k : ℕ). number_of (step_age k) s) p) (words ∙ ap (λ (k : ℕ). exit_of (step_age k) s) p)
