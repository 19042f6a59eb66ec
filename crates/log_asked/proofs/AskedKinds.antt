-- What a line can ask, by kinds; and that no line makes a sound store unsound.
-- Assumes nothing.
use Rattle.std.specs.Prelude.{ℕ, zero, suc, ◌+◌, ◌*◌, ◌/◌, ◌%◌, ◌^◌, ◌<◌, ◌≡◌, refl, Bool, cond, ◌&&◌, List, [], ◌∷◌, leb, ltb, length, drop}
use Rattle.std.proofs.Math.Path.{sym, subst}
use Rattle.std.proofs.Math.Bool.{true, false}
use Rattle.std.proofs.Math.Option.{Option, none, some}
use Rattle.std.proofs.Common.{arith, get_or-drop}
use Rattle.std.proofs.Math.Dec.{eqb}
use Rattle.std.proofs.Math.ListN.{get_or}
use borrow.Author.Tests.{eqb-false}
use Rattle.wire.specs.Be.{Bytes, be_at}
use Rattle.wire.specs.Refusal.{on_zero, on-refused}
use Rattle.fresh.specs.Fresh.{site_with}
use Rattle.foreign_master.proofs.Laws.{started}
use Rattle.hex_line.specs.Hex.{pairs_of, missed}
use Rattle.stored.specs.Calls.{StoreCall, register_frame, step_age, Wired, exit_of, number_of}
use Rattle.stored.proofs.Views.{refused-words, call_view}
use Rattle.log_answer.specs.declared.Setup.{Setup}
use Rattle.log_answer.specs.declared.Answered.{Answered}
use Rattle.log_answer.specs.Answer.{Asked, setup_of, store_of, Known, answered_of, answer_bytes}
use Rattle.log_setup.specs.Start.{intervals_at, start_at, setup_at, start_asked}
use Rattle.log_call.specs.Call.{frame_asked, step_asked}
use Rattle.log_decision.specs.Call.{decision_of, decision_asked}
use Rattle.log_asked.specs.Line.{kind_asked, asked_of, asked, line_answered, line_store}

-- the bytes that digits spell are bytes
pairs_bytes : (l : List ℕ) → Bytes (pairs_of l)
unfolding pairs_of
pairs_bytes [] i = omega arith
pairs_bytes (a ∷ []) i = omega arith
pairs_bytes (a ∷ b ∷ l) zero = omega arith
pairs_bytes (a ∷ b ∷ l) (suc i) = pairs_bytes l i

rest-bytes : (n : ℕ) (l : List ℕ) → Bytes l → Bytes (drop n l)
rest-bytes n l h i = subst (λ (x : ℕ). x < 256) (sym (get_or-drop n l i 0)) (h (n + i))

-- nothing, a fresh start with what it sets up, or, once a setup was good, another call
pub data Kind (setup : Setup) (a : Option Asked) : Type 0 where
  nothing : none ≡ a → Kind setup a
  starting : (line : List ℕ) → some (record { call = start_at line; setup = setup_at line }) ≡ a → Kind setup a
  calling : (c : StoreCall) → Wired c → (setup.ports ≡ 0 → ⊥) → some (record { call = c; setup = setup }) ≡ a → Kind setup a

module _ (setup : Setup) where
  of_both : {x y : Option Asked} (b : Bool) → (b ≡ true → Kind setup x) → (b ≡ false → Kind setup y) → Kind setup (cond b x y)
  of_both true f g = f refl
  of_both false f g = g refl

  kinds-bytes : (line : List ℕ) → Bytes line → Kind setup (asked_of setup line)
  unfolding asked_of start_asked kind_asked frame_asked step_asked decision_asked
  kinds-bytes line bytes =
      of_both (eqb (length line) 0) (λ _. nothing refl) (λ _.
      of_both (eqb (get_or line 0 0) 0) (λ _.
      of_both (eqb (length line) (16 + get_or line 1 0 * 8)) (λ _. starting line refl) (λ _. nothing refl)) (λ _.
      of_both (eqb setup.ports 0) (λ _. nothing refl) (λ no.
      let ready : setup.ports ≡ 0 → ⊥ = eqb-false setup.ports 0 no in
      of_both (eqb (get_or line 0 0) 1) (λ _.
      of_both (leb 2 (length line)) (λ _. calling (register_frame (get_or line 1 0) (drop 2 line)) (rest-bytes 2 line bytes) ready refl) (λ _. nothing refl)) (λ _.
      of_both (eqb (get_or line 0 0) 2) (λ _.
      of_both (eqb (length line) 9) (λ _. calling (step_age (be_at line 1 8)) tt ready refl) (λ _. nothing refl)) (λ _.
      of_both (eqb (get_or line 0 0) 3) (λ _.
      of_both (eqb (length line) 2 && eqb (get_or line 1 0 / 2 ^ setup.ports) 0) (λ _. calling (decision_of setup (get_or line 1 0)).call tt ready refl) (λ _. nothing refl)) (λ _.
      nothing refl))))))

  pub kinds : (l : List ℕ) → Kind setup (asked setup l)
  unfolding asked
  kinds l =
      of_both (leb (length l) 4096 && (eqb (length l % 2) 0 && eqb (missed l) 0)) (λ _. kinds-bytes (pairs_of l) (pairs_bytes l)) (λ _. nothing refl)

-- ---- a store that is sound once something is set up is so after any line

module _ (setup : Setup) (s : List ℕ) (known : Known 0 setup s) where
  After : Option Asked → Type 0
  After a = Known 0 (setup_of a setup s) (store_of a s)

  -- a setup line: what is taken is sound on any words, what is refused changes nothing
  start-known : (line : List ℕ) (n : ℕ) → number_of (start_at line) s ≡ n → Known 0 (on_zero (number_of (start_at line) s) (setup_at line) (λ _. setup)) (exit_of (start_at line) s)
  start-known line zero z = λ _. sym (started s (site_with (be_at line 2 8) true []) (intervals_at line (get_or line 1 0)) z).sound
  start-known line (suc n) z =
      let no : number_of (start_at line) s ≡ 0 → ⊥ = λ e. omega (arith, z, e) in
      subst (λ (x : Setup). Known 0 x (exit_of (start_at line) s)) (sym (on-refused (number_of (start_at line) s) (setup_at line) (λ _. setup) no))
      (subst (Known 0 setup) (sym (refused-words (start_at line) s no)) known)

  after : (a : Option Asked) → Kind setup a → After a
  unfolding After
  after a (nothing e) = subst After e known
  after a (starting line e) = subst After e (start-known line (number_of (start_at line) s) refl)
  after a (calling c w r e) = subst After e (λ _. sym (call_view s (sym (known r)) c w).sound)

  pub line_known : (line out : List ℕ) → Known 0 (line_answered setup line s out).setup (line_store setup line s out)
  unfolding line_answered line_store answered_of After
  line_known line out = by-room (ltb (length out) answer_bytes)
    where
      by-room : (b : Bool) → Known 0 (cond {A = Answered} b (record { setup = setup; count = 0 }) (answered_of (asked setup line) setup s)).setup (cond b s (store_of (asked setup line) s))
      by-room true = known
      by-room false = after (asked setup line) (kinds setup line)
