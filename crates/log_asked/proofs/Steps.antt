-- Each way through the answer to a line, for the proofs of the code.
-- Assumes nothing.
use Rattle.std.specs.Prelude.{ℕ, zero, suc, ◌*◌, ◌/◌, ◌%◌, ◌≤◌, ◌<◌, ◌≡◌, Bool, true, false, ◌&&◌, List, [], ◌∷◌, eqb, leb, length, take, get_or, Option, Some, None}
use Rattle.std.proofs.Math.Path.{refl, sym}
use Rattle.std.proofs.Common.{ap, ◌∙◌, true≢false, arith, take_at}
use Rattle.std.proofs.Math.Bool.{cond}
use Rattle.std.proofs.Math.Option.{none}
use borrow.Author.Tests.{eq-eqb, ne_eqb, lt-ltb, le-ltb, eqb-true, leb-true}
use Rattle.std.proofs.lemmas.List.Edits.{sets, sets-eq}
use Rattle.wire.specs.Below.{both}
use Rattle.hex_line.specs.Hex.{pairs_of, missed, fits_in, decoded_of, decoded_out}
use Rattle.log_answer.specs.declared.Setup.{Setup}
use Rattle.log_answer.specs.declared.Answered.{Answered}
use Rattle.log_answer.specs.Answer.{text_of, Answers, answer_bytes}
use Rattle.log_setup.specs.Start.{start_asked}
use Rattle.log_call.specs.Call.{frame_asked, step_asked}
use Rattle.log_decision.specs.Call.{decision_asked}
use Rattle.log_asked.specs.Line.{kind_asked, asked_of, asked, line_answered, line_store, line_out, none_answered, none_out}

-- ---- the bytes of a line of digits

length_pairs : (n : ℕ) (line : List ℕ) → length line ≡ n * 2 → length (pairs_of line) ≡ n
unfolding pairs_of
length_pairs zero [] e = refl
length_pairs zero (a ∷ line) e = absurd (omega (arith, e))
length_pairs (suc n) [] e = absurd (omega (arith, e))
length_pairs (suc n) (a ∷ []) e = absurd (omega (arith, e))
length_pairs (suc n) (a ∷ b ∷ line) e = ap suc (length_pairs n line (omega (arith, e)))

abbrev is_bad : Option ℕ → Bool
is_bad (Some n) = false
is_bad None = true

abbrev size_of : Option ℕ → ℕ
size_of (Some n) = n
size_of None = 0

-- the tests of a line, by how its decoding went
good_tests : (a e m : Bool) (k n : ℕ) → cond (a && (e && a)) (cond m (Some k) None) None ≡ Some n → ((a && (e && m)) ≡ true) × ((a && (e && a)) ≡ true) × (e ≡ true) × (k ≡ n)
good_tests true true true k n q = (refl, refl, refl, ap size_of q)
good_tests true true false k n q = absurd (true≢false (ap is_bad q))
good_tests true false m k n q = absurd (true≢false (ap is_bad q))
good_tests false e m k n q = absurd (true≢false (ap is_bad q))

bad_tests : (a e m : Bool) (k : ℕ) → cond (a && (e && a)) (cond m (Some k) None) None ≡ None → (a && (e && m)) ≡ false
bad_tests true true true k q = absurd (true≢false (sym (ap is_bad q)))
bad_tests true true false k q = refl
bad_tests true false m k q = refl
bad_tests false e m k q = refl

module _ (setup : Setup) (line : List ℕ) where
  abbrev short : Bool
  short = leb (length line) 4096

  abbrev even : Bool
  even = eqb (length line % 2) 0

  abbrev digits : Bool
  digits = eqb (missed line) 0

  pub bad-asked : None ≡ decoded_of line 2048 → none ≡ asked setup line
  unfolding asked decoded_of fits_in
  bad-asked e = sym (ap (λ (b : Bool). cond b (asked_of setup (pairs_of line)) none) (bad_tests short even digits (length line / 2) (sym e)))

  pub good_asked : (n : ℕ) → Some n ≡ decoded_of line 2048 → asked_of setup (pairs_of line) ≡ asked setup line
  unfolding asked decoded_of fits_in
  good_asked n e = sym (ap (λ (b : Bool). cond b (asked_of setup (pairs_of line)) none) (good_tests short even digits (length line / 2) n (sym e)).0)

-- the bytes stand in front of the room for them
pub good_bytes : (line out : List ℕ) (n : ℕ) → length out ≡ 2048 → Some n ≡ decoded_of line 2048 → take n (decoded_out line out) ≡ pairs_of line
unfolding decoded_of decoded_out fits_in
good_bytes line out n room e =
    let t = good_tests (leb (length line) 4096) (eqb (length line % 2) 0) (eqb (missed line) 0) (length line / 2) n (sym e) in
    let even : length line % 2 ≡ 0 = eqb-true _ _ t.2 in
    let fits : length line ≤ 4096 = leb-true _ _ (both (leb (length line) 4096) (eqb (length line % 2) 0 && leb (length line) 4096) t.1).0 in
    let size : length (pairs_of line) ≡ n = length_pairs n line (omega (arith, even, t.3)) in
    rw (room, t.1) (ap (take n) (sets-eq (pairs_of line) out 0 (omega (arith, size, fits, room, t.3))) ∙ take_at (pairs_of line) _ n size)

-- ---- what a line of bytes asks, way by way

module _ (setup : Setup) (line : List ℕ) where
  pub empty-line : length line ≡ 0 → none ≡ asked_of setup line
  unfolding asked_of
  empty-line h = rw (eq-eqb (length line) 0 h) refl

  module _ (some_byte : length line ≡ 0 → ⊥) where
    pub kind_0 : get_or line 0 0 ≡ 0 → start_asked line ≡ asked_of setup line
    unfolding asked_of
    kind_0 k = rw (ne_eqb (length line) 0 some_byte, eq-eqb (get_or line 0 0) 0 k) refl

    module _ (other : get_or line 0 0 ≡ 0 → ⊥) where
      pub before-setup : setup.ports ≡ 0 → none ≡ asked_of setup line
      unfolding asked_of
      before-setup p = rw (ne_eqb (length line) 0 some_byte, ne_eqb (get_or line 0 0) 0 other, eq-eqb setup.ports 0 p) refl

      pub kinds : (setup.ports ≡ 0 → ⊥) → kind_asked (get_or line 0 0) setup line ≡ asked_of setup line
      unfolding asked_of
      kinds ready = rw (ne_eqb (length line) 0 some_byte, ne_eqb (get_or line 0 0) 0 other, ne_eqb setup.ports 0 ready) refl

module _ (kind : ℕ) (setup : Setup) (line : List ℕ) where
  pub kind_1 : kind ≡ 1 → frame_asked setup line ≡ kind_asked kind setup line
  unfolding kind_asked
  kind_1 k = rw (eq-eqb kind 1 k) refl

  pub kind_2 : kind ≡ 2 → step_asked setup line ≡ kind_asked kind setup line
  unfolding kind_asked
  kind_2 k = rw (ne_eqb kind 1 (λ e. omega (arith, k, e)), eq-eqb kind 2 k) refl

  pub kind_3 : kind ≡ 3 → decision_asked setup line ≡ kind_asked kind setup line
  unfolding kind_asked
  kind_3 k = rw (ne_eqb kind 1 (λ e. omega (arith, k, e)), ne_eqb kind 2 (λ e. omega (arith, k, e)), eq-eqb kind 3 k) refl

  pub kind_other : (kind ≡ 1 → ⊥) → (kind ≡ 2 → ⊥) → (kind ≡ 3 → ⊥) → none ≡ kind_asked kind setup line
  unfolding kind_asked
  kind_other a b c = rw (ne_eqb kind 1 a, ne_eqb kind 2 b, ne_eqb kind 3 c) refl

-- ---- the whole call

module _ (setup : Setup) (line s out : List ℕ) where
  pub no_room : length out < answer_bytes → (record { setup = setup; count = 0 } ≡ line_answered setup line s out) × (s ≡ line_store setup line s out) × (out ≡ line_out setup line s out)
  unfolding line_answered line_store line_out
  no_room h = rw (lt-ltb (length out) answer_bytes h) (refl, refl, refl)

  pub room : (r : Answered) (s' out' : List ℕ) → answer_bytes ≤ length out → Answers (asked setup line) setup s out r s' out'
      → (r ≡ line_answered setup line s out) × (s' ≡ line_store setup line s out) × (out' ≡ line_out setup line s out)
  unfolding line_answered line_store line_out
  room r s' out' h a = rw (le-ltb (length out) answer_bytes h) a

module _ (setup : Setup) (out : List ℕ) where
  pub none-room : length out < answer_bytes → (record { setup = setup; count = 0 } ≡ none_answered setup out) × (out ≡ none_out out)
  unfolding none_answered none_out
  none-room h = rw (lt-ltb (length out) answer_bytes h) (refl, refl)

  pub none_told : (r : Answered) (out' : List ℕ) → answer_bytes ≤ length out → r.setup ≡ setup → r.count ≡ 3 → out' ≡ sets out 0 (text_of (17 ∷ []))
      → (r ≡ none_answered setup out) × (out' ≡ none_out out)
  unfolding none_answered none_out
  none_told r out' h e n t = rw (le-ltb (length out) answer_bytes h) ((λ i. record { setup = e i; count = n i }), t)
