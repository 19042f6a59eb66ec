-- What an entry writer and a builder leave in the buffer.
-- Assumes nothing.
use Prim.Native.Nat.{ℕ, zero, suc, ◌+◌, ◌-◌, ◌%◌, ◌≤◌, ◌<◌}
use Rattle.std.proofs.Math.Path.{◌≡◌, refl, sym, ap}
use Rattle.std.proofs.Common.{◌∙◌, append_assoc, append-nil, add-zero, arith, length-append, length-drop, length-take-le, take_at, le-leb, eq-eqb, ne_eqb, leb-true, leb-false}
use Rattle.std.specs.Prelude.{Bool, true, false, List, [], ◌∷◌, ◌++◌, take, drop, leb, Result, Ok, Err}
use Rattle.std.proofs.Math.Bool.{cond}
use Rattle.std.proofs.Math.Option.{none, some}
use Rattle.std.proofs.Math.ListN.{length}
use borrow.Rule.Slice.PartMut.{put_mid, mid_of, put_same}
use Rattle.std.proofs.lemmas.Bool.{lt-leb}
use Rattle.wire.specs.Be.{bytes_of, put}
use Rattle.wire.proofs.BeLaws.{length-bytes_of, put-put, put-part}
use Rattle.wire.specs.Refusal.{on_zero, on-done, on-refused}
use Rattle.wire.specs.Write.{write_number, done, kept}
use Rattle.tlv_builder.specs.declared.TlvSetBuilder.{TlvSetBuilder}
use Rattle.refused.specs.declared.Refusal.{Refusal}
use Rattle.refused.specs.Refusal.{number_of, refused, answer_of}
use Rattle.refused.proofs.Laws.{number-positive, refused-number, answer-number}
use Rattle.tlv.specs.Tlv.{Tlv}
use Rattle.tlv_builder.specs.Builder.{entry_bytes, entry_fits, entry_answer, entry_exit, add_answer, add_exit, add_read, list_bytes}

-- ---- what fits

pub odd_unfit : (n : ℕ) → (n % 2 ≡ 0 → ⊥) → entry_fits n ≡ false
unfolding entry_fits
odd_unfit n h = rw (ne_eqb (n % 2) 0 h)

pub long_unfit : (n : ℕ) → n % 2 ≡ 0 → 65534 < n → entry_fits n ≡ false
unfolding entry_fits
long_unfit n e h = rw (eq-eqb (n % 2) 0 e, lt-leb n 65534 h)

pub even-fits : (n : ℕ) → n % 2 ≡ 0 → n ≤ 65534 → entry_fits n ≡ true
unfolding entry_fits
even-fits n e h = rw (eq-eqb (n % 2) 0 e, le-leb n 65534 h)

-- ---- the bytes of an entry

pub length-entry_bytes : (t : ℕ) (v : List ℕ) → length (entry_bytes t v) ≡ length v + 4
unfolding entry_bytes
length-entry_bytes t v = simp (length-append, length-bytes_of) (omega arith)

-- type, length and value, written one after the other
pub laid : (s : List ℕ) (t : ℕ) (v : List ℕ) → length v + 4 ≤ length s
    → put (put (put s 0 (bytes_of 2 t)) 2 (bytes_of 2 (length v))) 4 v ≡ put s 0 (entry_bytes t v)
unfolding entry_bytes
laid s t v le =
    let x = bytes_of 2 t in
    let y = bytes_of 2 (length v) in
    ap (λ (l : List ℕ). put l 4 v) (put-put s 0 2 x y (rw length-bytes_of refl) (rw length-bytes_of (omega arith)))
    ∙ put-put s 0 4 (x ++ y) v (simp (length-append, length-bytes_of)) (omega arith)

-- ---- an entry written into the rest of a buffer

-- where r is the lesser of the bytes used and the buffer's length
module _ (b v : List ℕ) (t used r : ℕ) (le : r ≤ length b) (same : length b - r ≡ length b - used) (is : used ≤ length b → r ≡ used) where
  abbrev rest : List ℕ
  rest = mid_of r (length b - r) b

  rest-length : length rest ≡ length b - used
  rest-length = length-take-le (length b - r) (drop r b) (omega (arith, length-drop r b)) ∙ same

  -- the room in the rest is that in the buffer
  room : (n : ℕ) → leb (n + 4) (length rest) ≡ leb (used + (n + 4)) (length b)
  room n = by (leb (used + (n + 4)) (length b)) refl
    where
      by : (x : Bool) → leb (used + (n + 4)) (length b) ≡ x → leb (n + 4) (length rest) ≡ x
      by true e = le-leb (n + 4) (length rest) (omega (arith, rest-length, leb-true (used + (n + 4)) (length b) e))
      by false e = lt-leb (n + 4) (length rest) (omega (arith, rest-length, leb-false (used + (n + 4)) (length b) e))

  pub same_answer : entry_answer rest v ≡ add_answer b used v
  unfolding write_number
  same_answer = ap (λ (x : Bool). cond (entry_fits (length v)) (cond x 0 1) 15) (room (length v))

  pub add_done : add_answer b used v ≡ 0 → put_mid r (length b - r) b (entry_exit rest t v) ≡ add_exit b used t v
  add_done e =
      let eb = entry_bytes t v in
      let d = done (entry_fits (length v)) (length v + 4) rest (put rest 0 eb) (same_answer ∙ e) in
      let w = done (entry_fits (length v)) (used + (length v + 4)) b (put b used eb) e in
      let here : r ≡ used = is (omega (arith, w.room)) in
      let l = length-entry_bytes t v in
      rw (d.exit, w.exit, put-part b r (length b - r) 0 eb (omega (arith, l, w.room, here)) (omega arith), add-zero r, here)

  pub add-refused : (add_answer b used v ≡ 0 → ⊥) → put_mid r (length b - r) b (entry_exit rest t v) ≡ add_exit b used t v
  add-refused n =
      rw (kept (entry_fits (length v)) (length v + 4) rest (put rest 0 (entry_bytes t v)) (λ e. n (sym same_answer ∙ e)), kept (entry_fits (length v)) (used + (length v + 4)) b (put b used (entry_bytes t v)) n)
      (put_same r (length b - r) b)

-- what the builder answers, by its number
module _ (b v : List ℕ) (used : ℕ) where
  abbrev after : Result TlvSetBuilder Refusal
  after = Ok (record { used = used + (length v + 4) })

  pub read_done : add_answer b used v ≡ 0 → after ≡ add_read b used v
  unfolding add_read
  read_done e = sym (on-done (add_answer b used v) after refused e)

  pub read-refused : (e : Refusal) → add_answer b used v ≡ number_of e → Err e ≡ add_read b used v
  unfolding add_read
  read-refused e h = refused-number e ∙ rw h (sym (on-refused (number_of e) after refused (λ z. omega (arith, number-positive e))))

  -- a builder that took an entry is within the buffer
  pub added_within : (then : TlvSetBuilder) → add_read b used v ≡ Ok then → then.used ≤ length b
  unfolding add_read
  added_within then e = by (add_answer b used v) refl e
    where
      by : (n : ℕ) → add_answer b used v ≡ n → on_zero n after refused ≡ Ok then → then.used ≤ length b
      by zero z e =
          let same : (record { used = used + (length v + 4) }) ≡ then = cc in
          omega (arith, ap (λ (x : TlvSetBuilder). x.used) same, (done _ _ b b z).room)
      by (suc n) z e = absurd (let f : ◌≡◌ {A = ℕ} 0 1 = cc in omega arith)

  -- in the paper's numbers
  pub add-answer : answer_of (add_read b used v) ≡ on_zero (add_answer b used v) (0, some (record { used = used + (length v + 4) })) (λ n. (n, none))
  unfolding add_read write_number
  add-answer = answer-number (add_answer b used v) (record { used = used + (length v + 4) }) (by (entry_fits (length v)) (leb (used + (length v + 4)) (length b)))
    where
      by : (x y : Bool) → cond x (cond y 0 1) 15 ≤ 17
      by true true = omega arith
      by true false = omega arith
      by false y = omega arith

-- ---- a list that grows

pub list-more : (es : List Tlv) (e : Tlv) → list_bytes (es ++ (e ∷ [])) ≡ list_bytes es ++ entry_bytes e.type e.value
unfolding list_bytes
list-more [] e = append-nil (entry_bytes e.type e.value)
list-more (f ∷ es) e =
    ap (λ (l : List ℕ). entry_bytes f.type f.value ++ l) (list-more es e) ∙ sym (append_assoc (entry_bytes f.type f.value) (list_bytes es) (entry_bytes e.type e.value))

-- where the bytes used are a list of entries, they are afterwards that list and the new entry
pub add-entry : (b : List ℕ) (used : ℕ) (es : List Tlv) (e : Tlv) → take used b ≡ list_bytes es → add_answer b used e.value ≡ 0
    → take (used + (length e.value + 4)) (add_exit b used e.type e.value) ≡ list_bytes (es ++ (e ∷ []))
unfolding put
add-entry b used es e h k =
    let eb = entry_bytes e.type e.value in
    let n = length e.value + 4 in
    let d = done (entry_fits (length e.value)) (used + n) b (put b used eb) k in
    let here : length (take used b ++ eb) ≡ used + n =
    simp (length-append, length-take-le used b (omega (arith, d.room)), length-entry_bytes) in
    ap (take (used + n)) d.exit
    ∙ take_at (take used b ++ eb) (drop (used + length eb) b) (used + n) here
    ∙ ap (λ (l : List ℕ). l ++ eb) h
    ∙ sym (list-more es e)
