-- What a fit of the header says, and each way out of its reader.
-- Assumes nothing.
use Rattle.std.specs.Prelude.{ℕ, ◌%◌, ◌≤◌, ◌<◌, List, ◌≡◌, refl, Bool, true, false, cond, leb, length, Option, Some, None, Ok}
use Rattle.std.proofs.Math.Option.{none, some}
use Rattle.std.proofs.Math.Option as math
use Rattle.std.proofs.Common.{arith, leb-true, leb-false, le-leb}
use Rattle.std.proofs.lemmas.Bool.{lt-leb}
use Rattle.header.specs.declared.Header.{Header}
use Rattle.header.specs.declared.DeserializedHeader.{DeserializedHeader}
use Rattle.message_type.specs.declared.MessageType.{MessageType}
use Rattle.refused.specs.Refusal.{refused, answer_of}
use Rattle.wire.specs.Be.{be_at}
use Rattle.wire.specs.Below.{both}
use Rattle.message_type.specs.Types.{type_of}
use Rattle.header.specs.Wire.{header_at, read_type, read_header, fits_wire}

-- ---- what the wire can hold

pub record Fitting (sdo major minor content : ℕ) : Type 0 where
  pub sdo-fits : sdo ≤ 0xFFF
  pub major-fits : major ≤ 15
  pub minor-fits : minor ≤ 15
  pub content-fits : content ≤ 65501

pub fitting : (sdo major minor content : ℕ) → fits_wire sdo major minor content ≡ true → Fitting sdo major minor content
unfolding fits_wire
fitting sdo major minor content e =
    let p = both _ _ e in
    let q = both _ _ p.1 in
    let r = both _ _ q.1 in
    record {
      sdo-fits = leb-true _ _ p.0;
      major-fits = leb-true _ _ q.0;
      minor-fits = leb-true _ _ r.0;
      content-fits = leb-true _ _ r.1;
    }

pub fitted : (sdo major minor content : ℕ) → Fitting sdo major minor content → fits_wire sdo major minor content ≡ true
unfolding fits_wire
fitted sdo major minor content f =
    rw (le-leb sdo 0xFFF f.sdo-fits, le-leb major 15 f.major-fits, le-leb minor 15 f.minor-fits, le-leb content 65501 f.content-fits)

-- ---- the three ways of a read

module _ (s : List ℕ) where
  pub read_1 : length s < 34 → refused 1 ≡ read_header s
  unfolding read_header
  read_1 l = rw (lt-leb 34 (length s) l)

  pub read_2 : 34 ≤ length s → type_of (be_at s 0 1 % 16) ≡ None → refused 2 ≡ read_header s
  unfolding read_header
  read_2 l e = rw (le-leb 34 (length s) l, e)

  pub read_0 : (t : MessageType) → 34 ≤ length s → type_of (be_at s 0 1 % 16) ≡ Some t
      → Ok (record { header = header_at s; message_type = t; message_length = be_at s 2 2 }) ≡ read_header s
  unfolding read_header
  read_0 t l e = rw (le-leb 34 (length s) l, e)

-- in the paper's numbers: 1 below 34 bytes, 2 for a reserved type, else 0 with header, type and length
abbrev type_answer : Option MessageType → Header → ℕ → ℕ × math.Option DeserializedHeader
type_answer (Some t) h size = (0, some (record { header = h; message_type = t; message_length = size }))
type_answer None h size = (2, none)

pub header-answer : (s : List ℕ)
    → answer_of (read_header s) ≡ cond (leb 34 (length s)) (type_answer (type_of (be_at s 0 1 % 16)) (header_at s) (be_at s 2 2)) (1, none)
unfolding read_header
header-answer s = by (leb 34 (length s)) (type_of (be_at s 0 1 % 16))
  where
    by : (b : Bool) (t : Option MessageType)
        → answer_of (cond b (read_type t (header_at s) (be_at s 2 2)) (refused 1)) ≡ cond b (type_answer t (header_at s) (be_at s 2 2)) (1, none)
    by true (Some t) = refl
    by true None = refl
    by false t = refl

-- what is read has the bytes of a header
pub read-long : (s : List ℕ) (d : DeserializedHeader) → read_header s ≡ Ok d → 34 ≤ length s
read-long s d e = by (leb 34 (length s)) refl
  where
    by : (b : Bool) → leb 34 (length s) ≡ b → 34 ≤ length s
    by true t = leb-true 34 (length s) t
    by false f =
        let r = read_1 s (leb-false 34 (length s) f) in
        let z : ◌≡◌ {A = ℕ} 0 1 = cc in
        absurd (omega arith)
