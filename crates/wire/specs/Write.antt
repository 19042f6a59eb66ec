-- The rule of every writer: 15 where the wire cannot hold what is given, then 1 where the buffer is short, before the first byte; a refusal
-- writes nothing.
-- Assumes nothing.
use Rattle.std.specs.Prelude.{ℕ, ◌≤◌, ◌<◌, ◌≡◌, refl, Bool, true, false, cond, List, leb, length}
use Rattle.std.proofs.Common.{sym, arith}
use borrow.Author.Tests.{leb-true, le-leb, lt-leb}
use Rattle.wire.specs.Refusal.{on_zero, on-refused}

-- the answer to what fits or not and takes `size` bytes: its number, 0 for done
unfoldable pub write_number : (fits : Bool) (size : ℕ) → List ℕ → ℕ
write_number fits size s = cond fits (cond (leb size (length s)) 0 1) 15

-- the buffer s afterwards, where `out` is what writing makes of it
unfoldable pub write_buffer : (fits : Bool) (size : ℕ) → List ℕ → List ℕ → List ℕ
write_buffer fits size s out = on_zero (write_number fits size s) out (λ n. s)

-- ---- the three ways of a write

-- the answer and the buffer afterwards
abbrev pub Wrote : Bool → ℕ → List ℕ → List ℕ → ℕ → List ℕ → Type 0
Wrote fits size s out r after = (r ≡ write_number fits size s) × (after ≡ write_buffer fits size s out)

module _ (fits : Bool) (size : ℕ) (s out : List ℕ) where
  pub wrote_15 : fits ≡ false → Wrote fits size s out 15 s
  unfolding write_number write_buffer
  wrote_15 e = rw e (refl, refl)

  pub wrote_1 : fits ≡ true → length s < size → Wrote fits size s out 1 s
  unfolding write_number write_buffer
  wrote_1 e l = rw (e, lt-leb size (length s) l) (refl, refl)

  pub wrote_0 : fits ≡ true → size ≤ length s → Wrote fits size s out 0 out
  unfolding write_number write_buffer
  wrote_0 e l = rw (e, le-leb size (length s) l) (refl, refl)

-- ---- what an answer of 0 says

pub record WroteAll (fits : Bool) (size : ℕ) (s out : List ℕ) : Type 0 where
  pub fit : fits ≡ true
  pub room : size ≤ length s
  pub exit : write_buffer fits size s out ≡ out

passed : (a b : Bool) → ◌≡◌ {A = ℕ} (cond a (cond b 0 1) 15) 0 → (a ≡ true) × (b ≡ true)
passed true true e = (refl, refl)
passed true false e = absurd (omega arith)
passed false b e = absurd (omega arith)

pub done : (fits : Bool) (size : ℕ) (s out : List ℕ) → write_number fits size s ≡ 0 → WroteAll fits size s out
unfolding write_number
done fits size s out e =
    let p = passed fits (leb size (length s)) e in
    let l = leb-true size (length s) p.1 in
    record { fit = p.0; room = l; exit = sym (wrote_0 fits size s out p.0 l).1 }

-- ---- what any other answer says

pub kept : (fits : Bool) (size : ℕ) (s out : List ℕ) → (write_number fits size s ≡ 0 → ⊥) → write_buffer fits size s out ≡ s
unfolding write_buffer
kept fits size s out n = on-refused (write_number fits size s) out (λ n. s) n
