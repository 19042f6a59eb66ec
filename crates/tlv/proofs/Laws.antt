-- Each way out of a read, what an entry that was read says, and the check of a list by its first entry.
-- Assumes nothing.
use Rattle.std.specs.Prelude.{ℕ, zero, suc, ◌+◌, ◌-◌, ◌%◌, ◌<◌, ◌≤◌, Bool, List, drop, Result, Ok, Err}
use Rattle.std.proofs.Math.Path.{◌≡◌, refl, ap}
use Rattle.std.proofs.Common.{sym, ◌∙◌, not-suc-le-zero, length-drop}
use Rattle.std.proofs.Math.Bool.{true, false, cond}
use Rattle.std.proofs.Math.Option.{none, some}
use native.Mathlib.Omega.{arith}
use Rattle.std.proofs.Math.ListN.{length, take}
use Rattle.std.proofs.Math.Dec.{leb, eqb}
use borrow.Author.Tests.{le-leb, lt-leb, eq-eqb, ne_eqb, leb-true, leb-false, eqb-true}
use Rattle.wire.specs.Be.{be_at}
use Rattle.tlv.specs.declared.TlvCursor.{TlvCursor}
use Rattle.tlv.specs.declared.TlvRead.{TlvRead}
use Rattle.tlv.specs.declared.TlvRead.TheVariants.{Entry, End}
use Rattle.refused.specs.declared.Refusal.{Refusal}
use Rattle.refused.specs.Refusal.{number_of, refused}
use Rattle.refused.proofs.Laws.{number-positive, number-le}
use Rattle.tlv.specs.Tlv.{answer_of, entry_at, check_read, check_in, list_check}

-- ---- the ways of a read

module _ (s : List ℕ) (at : ℕ) where
  -- the bytes that are left
  abbrev pub left : ℕ
  left = length s - at

  -- the length field
  abbrev pub len : ℕ
  len = be_at s (at + 2) 2

  -- the entry that stands there, if one does
  abbrev pub found : Result TlvRead Refusal
  found = Ok (Entry (be_at s at 2) (at + 4) len (record { at = at + 4 + len }))

module _ (least : ℕ) (s : List ℕ) (at : ℕ) where
  pub read_none : length s ≤ at → ◌≡◌ {A = Result TlvRead Refusal} (Ok End) (entry_at least s at)
  unfolding entry_at
  read_none h = rw (le-leb (length s) at h)

  pub read-few : at < length s → left s at < least → refused 1 ≡ entry_at least s at
  unfolding entry_at
  read-few h k = rw (lt-leb (length s) at h, lt-leb least (left s at) k)

  pub read-odd : at < length s → least ≤ left s at → (len s at % 2 ≡ 0 → ⊥) → refused 4 ≡ entry_at least s at
  unfolding entry_at
  read-odd h k o = rw (lt-leb (length s) at h, le-leb least (left s at) k, ne_eqb (len s at % 2) 0 o)

  pub read_past : at < length s → least ≤ left s at → len s at % 2 ≡ 0 → left s at < len s at + 4 → refused 1 ≡ entry_at least s at
  unfolding entry_at
  read_past h k e p = rw (lt-leb (length s) at h, le-leb least (left s at) k, eq-eqb (len s at % 2) 0 e, lt-leb (len s at + 4) (left s at) p)

  pub read-entry : at < length s → least ≤ left s at → len s at % 2 ≡ 0 → len s at + 4 ≤ left s at → found s at ≡ entry_at least s at
  unfolding entry_at
  read-entry h k e p = rw (lt-leb (length s) at h, le-leb least (left s at) k, eq-eqb (len s at % 2) 0 e, le-leb (len s at + 4) (left s at) p)

-- ---- an entry that was read

-- what it says: the bytes before its value are there, and the value ends within the list
pub record Read (least : ℕ) (s : List ℕ) (at t b l : ℕ) (next : TlvCursor) : Type 0 where
  pub type : t ≡ be_at s at 2
  pub start : b ≡ at + 4
  pub size : l ≡ be_at s (at + 2) 2
  pub after : next.at ≡ at + 4 + l
  pub even : l % 2 ≡ 0
  pub enough : least ≤ length s - at
  pub within : at + 4 + l ≤ length s

-- the tests of a read, one by one
module _ (least : ℕ) (s : List ℕ) (at : ℕ) where
  abbrev by_tests : Bool → Bool → Bool → Bool → Result TlvRead Refusal
  by_tests b₁ b₂ b₃ b₄ = cond b₁ (Ok End) (cond b₂ (cond b₃ (cond b₄ (found s at) (refused 1)) (refused 4)) (refused 1))

  pub entry_read : (t b l : ℕ) (next : TlvCursor) → entry_at least s at ≡ Ok (Entry t b l next) → Read least s at t b l next
  unfolding entry_at
  entry_read t b l next e =
      by (leb (length s) at) (leb least (left s at)) (eqb (len s at % 2) 0) (leb (len s at + 4) (left s at)) refl refl refl refl e
    where
      by : (b₁ b₂ b₃ b₄ : Bool) → leb (length s) at ≡ b₁ → leb least (left s at) ≡ b₂ → eqb (len s at % 2) 0 ≡ b₃ → leb (len s at + 4) (left s at) ≡ b₄
          → by_tests b₁ b₂ b₃ b₄ ≡ Ok (Entry t b l next) → Read least s at t b l next
      by true b₂ b₃ b₄ e₁ e₂ e₃ e₄ e = absurd (let z : ◌≡◌ {A = ℕ} 0 1 = cc in omega arith)
      by false false b₃ b₄ e₁ e₂ e₃ e₄ e = absurd (let z : ◌≡◌ {A = ℕ} 0 1 = cc in omega arith)
      by false true false b₄ e₁ e₂ e₃ e₄ e = absurd (let z : ◌≡◌ {A = ℕ} 0 1 = cc in omega arith)
      by false true true false e₁ e₂ e₃ e₄ e = absurd (let z : ◌≡◌ {A = ℕ} 0 1 = cc in omega arith)
      by false true true true e₁ e₂ e₃ e₄ e =
          let ct : t ≡ be_at s at 2 = cc in
          let cb : b ≡ at + 4 = cc in
          let cl : l ≡ len s at = cc in
          let cn : next ≡ (record { at = at + 4 + len s at }) = cc in
          record {
            type = ct;
            start = cb;
            size = cl;
            after = ap (λ (x : TlvCursor). x.at) cn ∙ ap (λ (n : ℕ). at + 4 + n) (sym cl);
            even = ap (λ (n : ℕ). n % 2) cl ∙ eqb-true (len s at % 2) 0 e₃;
            enough = leb-true least (left s at) e₂;
            within = omega (arith, cl, leb-false (length s) at e₁, leb-true (len s at + 4) (left s at) e₄);
          }

  -- none is read where no byte is left
  pub none_read : entry_at least s at ≡ Ok End → length s ≤ at
  unfolding entry_at
  none_read e = by (leb (length s) at) (leb least (left s at)) (eqb (len s at % 2) 0) (leb (len s at + 4) (left s at)) refl e
    where
      by : (b₁ b₂ b₃ b₄ : Bool) → leb (length s) at ≡ b₁ → by_tests b₁ b₂ b₃ b₄ ≡ Ok End → length s ≤ at
      by true b₂ b₃ b₄ e₁ e = leb-true (length s) at e₁
      by false false b₃ b₄ e₁ e = absurd (let z : ◌≡◌ {A = ℕ} 0 1 = cc in omega arith)
      by false true false b₄ e₁ e = absurd (let z : ◌≡◌ {A = ℕ} 0 1 = cc in omega arith)
      by false true true false e₁ e = absurd (let z : ◌≡◌ {A = ℕ} 0 1 = cc in omega arith)
      by false true true true e₁ e = absurd (let z : ◌≡◌ {A = ℕ} 0 1 = cc in omega arith)

  -- the number of a refusal is not that of done
  pub refusal-read : (e : Refusal) → entry_at least s at ≡ Err e → 0 < number_of e
  refusal-read e h = number-positive e

  -- in the paper's numbers: 0 and none where no byte is left; 1, 4 and 1 in its order; else 0 with type and value
  pub read_answer : answer_of s (entry_at least s at)
      ≡ cond (leb (length s) at) (0, none)
      (cond (leb least (left s at))
      (cond (eqb (len s at % 2) 0)
      (cond (leb (len s at + 4) (left s at)) (0, some (record { type = be_at s at 2; value = take (len s at) (drop (at + 4) s) })) (1, none))
      (4, none))
      (1, none))
  unfolding entry_at
  read_answer = by (leb (length s) at) (leb least (left s at)) (eqb (len s at % 2) 0) (leb (len s at + 4) (left s at))
    where
      by : (b₁ b₂ b₃ b₄ : Bool) → answer_of s (by_tests b₁ b₂ b₃ b₄)
          ≡ cond b₁ (0, none) (cond b₂ (cond b₃ (cond b₄ (0, some (record { type = be_at s at 2; value = take (len s at) (drop (at + 4) s) })) (1, none)) (4, none)) (1, none))
      by true b₂ b₃ b₄ = refl
      by false false b₃ b₄ = refl
      by false true false b₄ = refl
      by false true true false = refl
      by false true true true = refl

-- ---- the check of a list

-- two checks of the rest that agree on every shorter list agree here
agree : (least : ℕ) (f g : List ℕ → ℕ) (l : List ℕ) → ((m : List ℕ) → length m < length l → f m ≡ g m)
    → check_read f l (entry_at least l 0) ≡ check_read g l (entry_at least l 0)
agree least f g l h = by_read (entry_at least l 0) refl
  where
    by_read : (r : Result TlvRead Refusal) → entry_at least l 0 ≡ r → check_read f l r ≡ check_read g l r
    by_read (Ok End) e = refl
    by_read (Err r) e = refl
    by_read (Ok (Entry t b n c)) e =
        let r = entry_read least l 0 t b n c e in
        h (drop c.at l) (omega (arith, length-drop c.at l, r.after, r.within))

-- steps that are enough say the same
same-steps : (least j k : ℕ) (l : List ℕ) → length l < j → length l < k → check_in least j l ≡ check_in least k l
same-steps least zero k l h₁ h₂ = absurd (not-suc-le-zero h₁)
same-steps least (suc j) zero l h₁ h₂ = absurd (not-suc-le-zero h₂)
same-steps least (suc j) (suc k) l h₁ h₂ = agree least (check_in least j) (check_in least k) l (λ m h. same-steps least j k m (omega arith) (omega arith))

-- so the check of a list goes by what stands at its start and the check of the rest
pub unrolled : (least : ℕ) (l : List ℕ) → list_check least l ≡ check_read (list_check least) l (entry_at least l 0)
unfolding list_check
unrolled least l =
    agree least (check_in least (length l)) (list_check least) l (λ m h. same-steps least (length l) (suc (length m)) m h (omega arith))

-- a list is refused by a number of the table
within : (least k : ℕ) (l : List ℕ) → check_in least k l ≤ 17
within least zero l = omega arith
within least (suc k) l = by (within least k) (entry_at least l 0)
  where
    by : ((m : List ℕ) → check_in least k m ≤ 17) → (r : Result TlvRead Refusal) → check_read (check_in least k) l r ≤ 17
    by ih (Ok End) = omega arith
    by ih (Err e) = number-le e
    by ih (Ok (Entry t b n c)) = ih (drop c.at l)

pub check-le : (least : ℕ) (l : List ℕ) → list_check least l ≤ 17
unfolding list_check
check-le least l = within least (suc (length l)) l
