-- Each way through a call on a piece, for the proofs of the code.
-- Assumes nothing.
use Rattle.std.specs.Prelude.{ℕ, zero, suc, ◌≤◌, ◌≡◌, refl, Bool, true, false, cond, List, [], ◌∷◌, eqb, leb, ltb, length, take, drop, Some, None, Result, Ok, Err}
use Rattle.std.specs.Prelude as rust
use Rattle.std.proofs.Common.{zero-le, sym, ap, ◌∙◌, subst, true≢false, arith, leb-true, ltb-false, length-take-le}
use Rattle.std.proofs.Math.Option.{Option, none, some}
use Rattle.std.proofs.lemmas.List.{length-map}
use Rattle.refused.specs.declared.Refusal.{Refusal}
use Rattle.bmca.specs.declared.Decision.{Decision}
use Rattle.bmca.specs.Decide.{decide_answer}
use Rattle.stored.specs.Calls.{StoreCall, fresh_start, register_frame, step_age, decide, answers_to, answers_in}
use Rattle.feed.specs.Feed.{Next, found, taken, stop_at, scan}
use Rattle.lines.specs.Lines.{Told, line, too_long, Open, opened, keep, move, out, told_open, next_line, cut_of, kept_of, CutWithin}
use Rattle.lines.specs.declared.Cut.{Cut}
use Rattle.lines.specs.declared.Cut.TheVariants as C
use Rattle.lines.specs.declared.Last.{Last}
use Rattle.lines.specs.declared.Last.TheVariants as L
use Rattle.log_answer.specs.declared.Setup.{Setup}
use Rattle.log_answer.specs.declared.Answered.{Answered}
use Rattle.log_answer.specs.Answer.{Asked, Known, state_byte, told_of, text_of, answered_of, answer_bytes}
use Rattle.log_asked.specs.Line.{asked, line_answered, line_store, line_out, none_answered, none_out}
use Rattle.log_answer.specs.Steps.{length-text}
use Rattle.log_decision.specs.Steps.{few-ports}
use Rattle.log_asked.proofs.AskedKinds.{line_known}
use Rattle.log_step.specs.declared.Step.{Step}
use Rattle.log_step.specs.declared.Step.TheVariants as S
use Rattle.log_step.specs.Piece.{step_of, step_store, step_out, StepWithin, StepKnown, rest_of, rest_store, rest_out, RestWithin}

-- ---- a line that is found stands at the start of the buffer

abbrev pub LineStands : Next Open Told → Type 0
LineStands (found (line l) o next) = l ≡ take (length l) o.kept
LineStands (found too_long o next) = Unit
LineStands (taken o) = Unit

told-stands : (buffer : List ℕ) (n k : ℕ) (b : Bool) → leb n (length buffer) ≡ b → LineStands (found (cond b (line (take n buffer)) too_long) (opened buffer 0) k)
told-stands buffer n k true e = ap (λ (m : ℕ). take m buffer) (sym (length-take-le n buffer (leb-true n (length buffer) e)))
told-stands buffer n k false e = tt

-- by whether a byte is LF
byte-stands : (b : Bool) (s after : Open) (k : ℕ) (more : Next Open Told) → LineStands more → LineStands (stop_at (cond b (some (told_open s)) none) (cond b (opened s.kept 0) after) k more)
unfolding told_open
byte-stands true s after k more h = told-stands s.kept s.count k (leb s.count (length s.kept)) refl
byte-stands false s after k more h = h

scan-stands : (s : Open) (bs : List ℕ) (k : ℕ) → LineStands (scan move out s bs k)
unfolding move out
scan-stands s [] k = tt
scan-stands s (b ∷ bs) k =
    byte-stands (eqb b 10) s (keep (ltb s.count (length s.kept)) s.kept s.count b) (suc k) (scan move out (move s b) bs (suc k)) (scan-stands (move s b) bs (suc k))

pub next-stands : (buffer : List ℕ) (count : ℕ) (piece : List ℕ) (at : ℕ) → LineStands (next_line buffer count piece at)
unfolding next_line
next-stands buffer count piece at = scan-stands (opened buffer count) (drop at piece) at

-- ---- an answer stands within the room for it

take-fits : {A : Type 0} (n : ℕ) (xs : List A) → length (take n xs) ≤ n
take-fits zero xs = zero-le
take-fits (suc n) [] = zero-le
take-fits (suc n) (x ∷ xs) = omega (arith, take-fits n xs)

answers-fit : (c : StoreCall) (s : List ℕ) → length (answers_to c s) ≤ 8
answers-fit (fresh_start own any listed intervals) s = zero-le
answers-fit (register_frame port frame) s = zero-le
answers-fit (step_age step) s = zero-le
answers-fit (decide p₁ quality p₂ listening) s = by (decide_answer s p₁ quality p₂ listening) refl
  where
    by : (a : Result Decision Refusal) → a ≡ decide_answer s p₁ quality p₂ listening → length (answers_in a) ≤ 8
    by (Ok d) e = omega (arith, take-fits d.ports d.answers, few-ports s p₁ quality p₂ listening d e)
    by (Err r) e = zero-le

pub told-fits : (a : Option Asked) (s : List ℕ) → length (text_of (told_of a s)) ≤ answer_bytes
told-fits none s = omega (arith, length-text (17 ∷ []))
told-fits (some a) s =
    omega (arith, length-text (told_of (some a) s), length-map (answers_to a.call s) state_byte, answers-fit a.call s)

line-fits : (setup : Setup) (l s room : List ℕ) → (line_answered setup l s room).count ≤ length room
unfolding line_answered answered_of
line-fits setup l s room = by-room (ltb (length room) answer_bytes) refl
  where
    by-room : (b : Bool) → ltb (length room) answer_bytes ≡ b → (cond {A = Answered} b (record { setup = setup; count = 0 }) (answered_of (asked setup l) setup s)).count ≤ length room
    by-room true e = zero-le
    by-room false e = omega (arith, ltb-false (length room) answer_bytes e, told-fits (asked setup l) s)

none-fits : (setup : Setup) (room : List ℕ) → (none_answered setup room).count ≤ length room
unfolding none_answered
none-fits setup room = by-room (ltb (length room) answer_bytes) refl
  where
    by-room : (b : Bool) → ltb (length room) answer_bytes ≡ b → (cond {A = Answered} b (record { setup = setup; count = 0 }) (record { setup = setup; count = 3 })).count ≤ length room
    by-room true e = zero-le
    by-room false e = omega (arith, ltb-false (length room) answer_bytes e)

-- ---- a call on a piece, by what the cutting finds

abbrev count_of : Cut → ℕ
count_of (C.Line n next) = n
count_of (C.TooLong next) = 0
count_of (C.Taken n) = n

abbrev next_of : Cut → ℕ
next_of (C.Line n next) = next
next_of (C.TooLong next) = next
next_of (C.Taken n) = 0

abbrev is_line : Cut → Bool
is_line (C.Line n next) = true
is_line (C.TooLong next) = false
is_line (C.Taken n) = false

abbrev is_taken : Cut → Bool
is_taken (C.Line n next) = false
is_taken (C.TooLong next) = false
is_taken (C.Taken n) = true

-- what the contract of a call says, with `room` for an answer
abbrev Stepped : Next Open Told → (size at : ℕ) → Setup → (s room : List ℕ) → Step → (s' out' buffer' : List ℕ) → Type 0
Stepped N size at setup s room r s' out' buffer' =
    (r ≡ step_of N setup s room) × ((s' ≡ step_store N setup s room) × ((out' ≡ step_out N setup s room) × ((buffer' ≡ kept_of N) × StepWithin (length room) size at r)))

module _ (limit size at : ℕ) (cut : Cut) (within : CutWithin limit size at cut) (setup : Setup) (s room buffer' : List ℕ) where
  pub line_step : (N : Next Open Told) → LineStands N → cut ≡ cut_of N → buffer' ≡ kept_of N → (n next : ℕ) → cut ≡ C.Line n next → (r : Answered) (s' out' : List ℕ)
      → (r ≡ line_answered setup (take n buffer') s room) × (s' ≡ line_store setup (take n buffer') s room) × (out' ≡ line_out setup (take n buffer') s room)
      → Stepped N size at setup s room (S.Line r next) s' out' buffer'
  line_step (found (line l) o k) stands q b n next e r s' out' h =
      let same : n ≡ length l = ap count_of (sym e ∙ q) in
      let place : next ≡ k = ap next_of (sym e ∙ q) in
      let bytes : take n buffer' ≡ l = ap (λ (m : ℕ). take m buffer') same ∙ ap (take (length l)) b ∙ sym stands in
      let answer : r ≡ line_answered setup l s room = h.0 ∙ ap (λ (x : List ℕ). line_answered setup x s room) bytes in
      let w : CutWithin limit size at (C.Line n next) = subst (λ (x : Cut). CutWithin limit size at x) e within in (
        (λ i. S.Line (answer i) (place i)),
        (
          h.1 ∙ ap (λ (x : List ℕ). line_store setup x s room) bytes,
          (
            h.2 ∙ ap (λ (x : List ℕ). line_out setup x s room) bytes,
            (b, (subst (λ (x : Answered). x.count ≤ length room) (sym answer) (line-fits setup l s room), w.1, w.2)),
          ),
        ),
      )
  line_step (found too_long o k) stands q b n next e r s' out' h = absurd (true≢false (ap is_line (sym e ∙ q)))
  line_step (taken o) stands q b n next e r s' out' h = absurd (true≢false (ap is_line (sym e ∙ q)))

  pub long-step : (N : Next Open Told) → cut ≡ cut_of N → buffer' ≡ kept_of N → (next : ℕ) → cut ≡ C.TooLong next → (r : Answered) (out' : List ℕ)
      → (r ≡ none_answered setup room) × (out' ≡ none_out room)
      → Stepped N size at setup s room (S.Line r next) s out' buffer'
  long-step (found (line l) o k) q b next e r out' h = absurd (true≢false (sym (ap is_line (sym e ∙ q))))
  long-step (found too_long o k) q b next e r out' h =
      let place : next ≡ k = ap next_of (sym e ∙ q) in
      let w : CutWithin limit size at (C.TooLong next) = subst (λ (x : Cut). CutWithin limit size at x) e within in (
        (λ i. S.Line (h.0 i) (place i)),
        (refl, (h.1, (b, (subst (λ (x : Answered). x.count ≤ length room) (sym h.0) (none-fits setup room), w.0, w.1)))),
      )
  long-step (taken o) q b next e r out' h = absurd (true≢false (sym (ap is_taken (sym e ∙ q))))

  pub taken_step : (N : Next Open Told) → cut ≡ cut_of N → buffer' ≡ kept_of N → (n : ℕ) → cut ≡ C.Taken n → Stepped N size at setup s room (S.Taken n) s room buffer'
  taken_step (found (line l) o k) q b n e = absurd (true≢false (ap is_taken (sym e ∙ q)))
  taken_step (found too_long o k) q b n e = absurd (true≢false (ap is_taken (sym e ∙ q)))
  taken_step (taken o) q b n e = (ap S.Taken (ap count_of (sym e ∙ q)), (refl, (refl, (b, tt))))

-- a call on a store that is sound once something is set up leaves it so
none-known : (setup : Setup) (s room : List ℕ) → Known 0 setup s → Known 0 (none_answered setup room).setup s
unfolding none_answered
none-known setup s room known = by-room (ltb (length room) answer_bytes)
  where
    by-room : (b : Bool) → Known 0 (cond {A = Answered} b (record { setup = setup; count = 0 }) (record { setup = setup; count = 3 })).setup s
    by-room true = known
    by-room false = known

found-known : (N : Next Open Told) (setup : Setup) (s room : List ℕ) → Known 0 setup s → StepKnown setup (step_of N setup s room) (step_store N setup s room)
found-known (found (line l) o next) setup s room known = line_known setup s known l room
found-known (found too_long o next) setup s room known = none-known setup s room known
found-known (taken o) setup s room known = known

pub step-known : (N : Next Open Told) (setup : Setup) (s room : List ℕ) (r : Step) (s' : List ℕ) → Known 0 setup s → r ≡ step_of N setup s room → s' ≡ step_store N setup s room → StepKnown setup r s'
step-known N setup s room r s' known answer words =
    subst (λ (x : Step). StepKnown setup x s') (sym answer) (subst (StepKnown setup (step_of N setup s room)) (sym words) (found-known N setup s room known))

-- ---- the end of the input, by what stands open

abbrev Rested : Last → (buffer : List ℕ) → Setup → (s room : List ℕ) → rust.Option Answered → (s' out' : List ℕ) → Type 0
Rested x buffer setup s room r s' out' =
    (r ≡ rest_of x buffer setup s room) × ((s' ≡ rest_store x buffer setup s room) × ((out' ≡ rest_out x buffer setup s room) × RestWithin (length room) r))

module _ (x : Last) (buffer : List ℕ) (setup : Setup) (s room : List ℕ) where
  rests : (y : Last) → y ≡ x → (r : rust.Option Answered) (s' out' : List ℕ) → Rested y buffer setup s room r s' out' → Rested x buffer setup s room r s' out'
  rests y e r s' out' h = subst (λ (z : Last). Rested z buffer setup s room r s' out') e h

  pub line-rest : (n : ℕ) → L.Line n ≡ x → (r : Answered) (s' out' : List ℕ)
      → (r ≡ line_answered setup (take n buffer) s room) × (s' ≡ line_store setup (take n buffer) s room) × (out' ≡ line_out setup (take n buffer) s room)
      → Rested x buffer setup s room (Some r) s' out'
  line-rest n e r s' out' h =
      rests (L.Line n) e (Some r) s' out'
      (ap Some h.0, (h.1, (h.2, subst (λ (y : Answered). y.count ≤ length room) (sym h.0) (line-fits setup (take n buffer) s room))))

  pub long_rest : L.TooLong ≡ x → (r : Answered) (out' : List ℕ) → (r ≡ none_answered setup room) × (out' ≡ none_out room) → Rested x buffer setup s room (Some r) s out'
  long_rest e r out' h =
      rests L.TooLong e (Some r) s out' (ap Some h.0, (refl, (h.1, subst (λ (y : Answered). y.count ≤ length room) (sym h.0) (none-fits setup room))))

  pub none_rest : L.Nothing ≡ x → Rested x buffer setup s room None s room
  none_rest e = rests L.Nothing e None s room (refl, (refl, (refl, tt)))
