-- Each way out of the reader of frames, and what a frame that passes has.
-- Assumes nothing.
use Prim.Native.Nat.{ℕ, zero, suc, ◌%◌, ◌≤◌, ◌<◌}
use Rattle.std.proofs.Math.Path.{◌≡◌, refl, sym, ap}
use Rattle.std.proofs.Common.{◌∙◌, arith}
use Rattle.std.specs.Prelude.{Bool, List, length, Option, Some, None, Ok, Err}
use Rattle.std.proofs.Math.Bool.{true, false, cond}
use Rattle.std.proofs.Math.Option.{none, some}
use borrow.Author.Tests.{le-leb, lt-leb, eq-eqb, ne_eqb, leb-true, eqb-true}
use Rattle.std.proofs.Math.Dec.{eqb, leb}
use Rattle.wire.specs.Be.{be_at}
use Rattle.wire.specs.Refusal.{on_zero, on-done, on-refused}
use Rattle.message_type.specs.declared.MessageType.{MessageType}
use Rattle.message_type.specs.declared.MessageType.TheVariants.{Announce}
use Rattle.refused.specs.declared.Refusal.{Refusal}
use Rattle.refused.specs.Refusal.{number_of, refused, answer_of}
use Rattle.refused.proofs.Laws.{number-positive, refused-number, answer-number}
use Rattle.message_type.specs.Types.{type_of, type_number, type-back, number-back}
use Rattle.tlv.specs.Tlv.{least_left, check_list}
use Rattle.tlv.proofs.Laws.{check-le}
use Rattle.frame.specs.Frame.{size_at, tlvs_at, refusal_of_type, refusal_of, frame_refusal, message_at, read_frame}

-- ---- the checks on numbers

module _ (n size given : ℕ) where
  pub refused_2 : type_of n ≡ None → 2 ≡ refusal_of n size given
  unfolding refusal_of
  refused_2 e = rw e

  module _ (t : MessageType) (e : type_of n ≡ Some t) where
    pub refused_3 : size < 34 → 3 ≡ refusal_of n size given
    unfolding refusal_of
    refused_3 h = rw (e, lt-leb 34 size h)

    pub refused_1 : 34 ≤ size → given < size → 1 ≡ refusal_of n size given
    unfolding refusal_of
    refused_1 h g = rw (e, le-leb 34 size h, lt-leb size given g)

    pub refused_5 : 34 ≤ size → size ≤ given → (type_number t ≡ 11 → ⊥) → 5 ≡ refusal_of n size given
    unfolding refusal_of
    refused_5 h g k = rw (e, le-leb 34 size h, le-leb size given g, ne_eqb (type_number t) 11 k)

    pub refused-short : 34 ≤ size → size ≤ given → type_number t ≡ 11 → size < 64 → 1 ≡ refusal_of n size given
    unfolding refusal_of
    refused-short h g k l = rw (e, le-leb 34 size h, le-leb size given g, eq-eqb (type_number t) 11 k, lt-leb 64 size l)

    pub passed : size ≤ given → type_number t ≡ 11 → 64 ≤ size → 0 ≡ refusal_of n size given
    unfolding refusal_of
    passed g k l = rw (e, le-leb 34 size (omega arith), le-leb size given g, eq-eqb (type_number t) 11 k, le-leb 64 size l)

  -- what passes: an announce, of 64 bytes or more, that is there
  pub record Passed : Type 0 where
    pub type : type_of n ≡ Some Announce
    pub long : 64 ≤ size
    pub there : size ≤ given

  pub passed-back : refusal_of n size given ≡ 0 → Passed
  unfolding refusal_of
  passed-back e = by-type (type_of n) refl e
    where
      by_tests : (t : MessageType) → type_of n ≡ Some t → (a b c d : Bool) → leb 34 size ≡ a → leb size given ≡ b → eqb (type_number t) 11 ≡ c → leb 64 size ≡ d
          → refusal_of_type (Some t) size given ≡ 0 → Passed
      by_tests t q true true true true ea eb ec ed e =
          record {
            type = ap type_of (sym (number-back n t q) ∙ eqb-true (type_number t) 11 ec) ∙ type-back Announce;
            long = leb-true 64 size ed;
            there = leb-true size given eb;
          }
      by_tests t q true true true false ea eb ec ed e = absurd (omega (arith, simp (ea, eb, ec, ed) at e))
      by_tests t q true true false d ea eb ec ed e = absurd (omega (arith, simp (ea, eb, ec) at e))
      by_tests t q true false true d ea eb ec ed e = absurd (omega (arith, simp (ea, eb, ec) at e))
      by_tests t q true false false d ea eb ec ed e = absurd (omega (arith, simp (ea, eb, ec) at e))
      by_tests t q false b true d ea eb ec ed e = absurd (omega (arith, simp (ea, ec) at e))
      by_tests t q false b false d ea eb ec ed e = absurd (omega (arith, simp (ea, ec) at e))

      by-type : (r : Option MessageType) → type_of n ≡ r → refusal_of_type r size given ≡ 0 → Passed
      by-type None q e = absurd (omega arith)
      by-type (Some t) q e = by_tests t q (leb 34 size) (leb size given) (eqb (type_number t) 11) (leb 64 size) refl refl refl refl e

  -- its number is one of the table
  pub refusal-le : refusal_of n size given ≤ 17
  unfolding refusal_of
  refusal-le = by-type (type_of n)
    where
      by_tests : (a b c d : Bool) → cond a (cond b (cond c (cond d 0 1) 5) 1) 3 ≤ 17
      by_tests true true true true = omega arith
      by_tests true true true false = omega arith
      by_tests true true false d = omega arith
      by_tests true false c d = omega arith
      by_tests false b c d = omega arith

      by-type : (r : Option MessageType) → refusal_of_type r size given ≤ 17
      by-type None = omega arith
      by-type (Some t) = by_tests (leb 34 size) (leb size given) (eqb (type_number t) 11) (leb 64 size)

-- ---- a frame

module _ (s : List ℕ) where
  -- the number of the checks before the TLVs
  abbrev pub front : ℕ
  front = refusal_of (be_at s 0 1 % 16) (size_at s) (length s)

  pub frame_1 : length s < 34 → 1 ≡ frame_refusal s
  unfolding frame_refusal
  frame_1 h = rw (lt-leb 34 (length s) h)

  pub frame_front : (n : ℕ) → 34 ≤ length s → front ≡ n → (n ≡ 0 → ⊥) → n ≡ frame_refusal s
  unfolding frame_refusal
  frame_front n h e k = rw (le-leb 34 (length s) h, e) (sym (on-refused n (check_list (tlvs_at s)) (λ n. n) k))

  pub frame_tlvs : 34 ≤ length s → front ≡ 0 → check_list (tlvs_at s) ≡ frame_refusal s
  unfolding frame_refusal
  frame_tlvs h e = rw (le-leb 34 (length s) h) (sym (on-done front (check_list (tlvs_at s)) (λ n. n) e))

  -- what passes
  pub record FramePassed : Type 0 where
    pub front : Passed (be_at s 0 1 % 16) (size_at s) (length s)
    pub tlvs : check_list (tlvs_at s) ≡ 0

  pub frame_passed : frame_refusal s ≡ 0 → FramePassed
  unfolding frame_refusal
  frame_passed e = by (leb 34 (length s)) front refl e
    where
      by : (b : Bool) (n : ℕ) → refusal_of (be_at s 0 1 % 16) (size_at s) (length s) ≡ n → cond b (on_zero n (check_list (tlvs_at s)) (λ n. n)) 1 ≡ 0 → FramePassed
      by true zero q e = record { front = passed-back (be_at s 0 1 % 16) (size_at s) (length s) q; tlvs = e }
      by true (suc n) q e = absurd (omega arith)
      by false n q e = absurd (omega arith)

  pub frame_passes : FramePassed → frame_refusal s ≡ 0
  frame_passes p =
      let f = p.front in
      sym (frame_tlvs (omega (arith, f.long, f.there)) (sym (passed (be_at s 0 1 % 16) (size_at s) (length s) Announce f.type f.there refl f.long)))
      ∙ p.tlvs

  -- ---- the reader

  pub read-refused : (e : Refusal) → frame_refusal s ≡ number_of e → Err e ≡ read_frame s
  unfolding read_frame
  read-refused e h = refused-number e ∙ rw h (sym (on-refused (number_of e) (Ok (message_at s)) refused (λ z. omega (arith, number-positive e))))

  pub read_done : frame_refusal s ≡ 0 → Ok (message_at s) ≡ read_frame s
  unfolding read_frame
  read_done e = sym (on-done (frame_refusal s) (Ok (message_at s)) refused e)

  -- the numbers are those of the table
  pub frame-le : frame_refusal s ≤ 17
  unfolding frame_refusal
  frame-le = by (leb 34 (length s)) (refusal_of (be_at s 0 1 % 16) (size_at s) (length s)) (refusal-le (be_at s 0 1 % 16) (size_at s) (length s)) (check-le least_left (tlvs_at s))
    where
      by : (b : Bool) (n : ℕ) → n ≤ 17 → check_list (tlvs_at s) ≤ 17 → cond b (on_zero n (check_list (tlvs_at s)) (λ n. n)) 1 ≤ 17
      by true zero h k = k
      by true (suc n) h k = h
      by false n h k = omega arith

  -- in the paper's numbers: 0 with the message, or the refusal's number alone
  pub frame_answer : answer_of (read_frame s) ≡ on_zero (frame_refusal s) (0, some (message_at s)) (λ n. (n, none))
  unfolding read_frame
  frame_answer = answer-number (frame_refusal s) (message_at s) frame-le
