-- Each way through the answer to the line `03`, for the proofs of the code.
-- Assumes nothing.
use Prim.Native.Nat.{ℕ, zero, suc, ◌+◌, ◌*◌, ◌/◌, ◌^◌, ◌≤◌}
use Rattle.std.specs.Prelude.{◌≡◌, List, [], ◌∷◌, map, length, take, get_or, Result, Ok, Err}
use Rattle.std.proofs.Math.Path.{refl, ap}
use Rattle.std.proofs.Common.{sym, ◌∙◌, arith, length-take-le}
use Rattle.std.proofs.Math.Option.{Option, none, some}
use borrow.Author.Tests.{eq-eqb, ne_eqb}
use Rattle.std.proofs.lemmas.List.{length-map}
use Rattle.std.proofs.lemmas.List.Edits.{sets}
use Rattle.wire.specs.Refusal.{on_zero}
use Rattle.refused.specs.declared.Refusal.{Refusal}
use Rattle.refused.specs.Refusal.{number_of, refused, answer_of}
use Rattle.announce.specs.declared.ClockQuality.{ClockQuality}
use Rattle.book.specs.Layout.{book_of}
use Rattle.book.specs.Rules.{store_refusal}
use Rattle.book.proofs.Rules.{checked, held}
use Rattle.bmca.specs.declared.Decision.{Decision}
use Rattle.bmca.specs.Decide.{decide_of, decide_answer, decide_exit}
use Rattle.stored.specs.Calls.{answers_in}
use Rattle.bmca.proofs.Laws as decided
use Rattle.log_answer.specs.declared.Setup.{Setup}
use Rattle.log_answer.specs.declared.Answered.{Answered}
use Rattle.log_answer.specs.Answer.{Asked, state_byte, told_of, text_of, Answers}
use Rattle.log_answer.specs.Steps.{tells, kept-setup}
use Rattle.log_decision.specs.Call.{decision_of, decision_asked}

-- ---- what it asks

module _ (setup : Setup) (line : List ℕ) where
  pub decision-other : (length line ≡ 2 → ⊥) → none ≡ decision_asked setup line
  unfolding decision_asked
  decision-other h = rw (ne_eqb (length line) 2 h) refl

  pub decision-above : length line ≡ 2 → (get_or line 1 0 / 2 ^ setup.ports ≡ 0 → ⊥) → none ≡ decision_asked setup line
  unfolding decision_asked
  decision-above h b = rw (eq-eqb (length line) 2 h, ne_eqb (get_or line 1 0 / 2 ^ setup.ports) 0 b) refl

  pub decision-right : length line ≡ 2 → get_or line 1 0 / 2 ^ setup.ports ≡ 0 → some (decision_of setup (get_or line 1 0)) ≡ decision_asked setup line
  unfolding decision_asked
  decision-right h b = rw (eq-eqb (length line) 2 h, eq-eqb (get_or line 1 0 / 2 ^ setup.ports) 0 b) refl

-- ---- a decision

abbrev ports_of : Result Decision Refusal → ℕ
ports_of (Ok d) = d.ports
ports_of (Err e) = 0

module _ (s : List ℕ) (p₁ : ℕ) (quality : ClockQuality) (p₂ listening : ℕ) (d : Decision) (was : Ok d ≡ decide_answer s p₁ quality p₂ listening) where
  -- of a sound store,
  taken : store_refusal s ≡ 0
  unfolding decide_answer
  taken = by_store (store_refusal s) was
    where
      by_store : (k : ℕ) → Ok d ≡ on_zero k (Ok (decide_of (book_of s) p₁ quality p₂ listening)) refused → k ≡ 0
      by_store zero e = refl
      by_store (suc k) e = absurd (let y : ◌≡◌ {A = ℕ} 0 1 = cc in omega (arith, y))

  -- for no more ports than eight
  pub few-ports : d.ports ≤ 8
  few-ports =
      let m = ap ports_of ((decided.done s p₁ quality p₂ listening taken).0 ∙ sym was) in
      omega (arith, m, (held s (checked s taken).sound).ports)

module _ (setup : Setup) (listening : ℕ) (s out : List ℕ) (r : Answered) (s' out' : List ℕ) (words : s' ≡ decide_exit s) where
  abbrev decided_by : Result Decision Refusal → List ℕ
  decided_by a = (answer_of a).0 ∷ map state_byte (answers_in a)

  tells-decision : (a : Result Decision Refusal) → a ≡ decide_answer s setup.priority_1 setup.quality setup.priority_2 listening
      → told_of (some (decision_of setup listening)) s ≡ decided_by a
  tells-decision a was = ap decided_by (sym was)

  pub decision-refused : (e : Refusal) → Err e ≡ decide_answer s setup.priority_1 setup.quality setup.priority_2 listening
      → (t : (r.setup ≡ setup) × (r.count ≡ 3) × (out' ≡ sets out 0 (text_of (number_of e ∷ [])))) → Answers (some (decision_of setup listening)) setup s out r s' out'
  decision-refused e was t =
      tells (some (decision_of setup listening)) setup s out (number_of e ∷ []) (tells-decision (Err e) was) r s' out'
      (t.0 ∙ kept-setup (answer_of (decide_answer s setup.priority_1 setup.quality setup.priority_2 listening)).0 setup) t.1 words t.2

  pub decision-done : (d : Decision) → Ok d ≡ decide_answer s setup.priority_1 setup.quality setup.priority_2 listening
      → r.setup ≡ setup → r.count ≡ 3 + d.ports * 2 → d.ports ≤ length d.answers → out' ≡ sets out 0 (text_of (0 ∷ map state_byte (take d.ports d.answers)))
      → Answers (some (decision_of setup listening)) setup s out r s' out'
  decision-done d was e n few t =
      let a : Option Asked = some (decision_of setup listening) in
      let bytes : List ℕ = 0 ∷ map state_byte (take d.ports d.answers) in
      let size : length (map state_byte (take d.ports d.answers)) ≡ d.ports = length-map (take d.ports d.answers) state_byte ∙ length-take-le d.ports d.answers few in
      tells a setup s out bytes (tells-decision (Ok d) was) r s' out' (e ∙ kept-setup (answer_of (decide_answer s setup.priority_1 setup.quality setup.priority_2 listening)).0 setup) (omega (arith, n, size)) words t
