-- TLVs, IEEE 1588-2019, 14.1, as paper 01 reads them: what stands at a place, and the rule of a list.
-- Assumes nothing.
use Rattle.std.specs.Prelude.{ℕ, zero, suc, ◌+◌, ◌-◌, ◌%◌, List, Bool, cond, length, take, drop, leb, eqb, Result, Ok, Err}
use Rattle.std.proofs.Math.Option.{Option, none, some}
use Rattle.wire.specs.Be.{be_at}
use Rattle.tlv.specs.declared.TlvRead.{TlvRead}
use Rattle.tlv.specs.declared.TlvRead.TheVariants.{Entry, End}
use Rattle.refused.specs.declared.Refusal.{Refusal}
use Rattle.refused.specs.Refusal.{number_of, refused}

-- a reader takes an entry while more than 4 bytes remain; fewer, but some, are left over and refused
abbrev pub least_left : ℕ
least_left = 5

-- what stands at a place where fewer than `least` bytes are no entry: no byte is none; then too few bytes are refused 1, an odd
-- length 4, a value past the end 1; else the entry (u16 type, u16 length, value) and the place after it
unfoldable pub entry_at : (least : ℕ) → List ℕ → ℕ → Result TlvRead Refusal
entry_at least s at =
    let left = length s - at in
    let len = be_at s (at + 2) 2 in
    let entry = Ok (Entry (be_at s at 2) (at + 4) len (record { at = at + 4 + len })) in
    cond (leb (length s) at) (Ok End)
    (cond (leb least left) (cond (eqb (len % 2) 0) (cond (leb (len + 4) left) entry (refused 1)) (refused 4)) (refused 1))

-- one entry, read at its place
abbrev pub read_at : List ℕ → ℕ → Result TlvRead Refusal
read_at s at = entry_at least_left s at

-- ---- the rule of a list

-- what the check of a list answers, by what stands at its start and by the check of the rest
abbrev pub check_read : (List ℕ → ℕ) → List ℕ → Result TlvRead Refusal → ℕ
check_read f s (Ok End) = 0
check_read f s (Err e) = number_of e
check_read f s (Ok (Entry t b l next)) = f (drop next.at s)

-- the check in so many steps
abbrev pub check_in : (least : ℕ) → ℕ → List ℕ → ℕ
check_in least zero s = 1
check_in least (suc k) s = check_read (check_in least k) s (entry_at least s 0)

-- an entry has a byte at least, so a list's length is steps enough
unfoldable pub list_check : (least : ℕ) → List ℕ → ℕ
list_check least s = check_in least (suc (length s)) s

-- a reader's check: 0, or the number of the first refusal
abbrev pub check_list : List ℕ → ℕ
check_list s = list_check least_left s

-- a writer's: the bytes are whole even entries, of which any may be empty
abbrev pub whole_entries : List ℕ → Bool
whole_entries s = eqb (list_check 4 s) 0

-- ---- in the paper's numbers

-- an entry: its type and its value
pub record Tlv : Type 0 where
  pub type : ℕ
  pub value : List ℕ

-- the number, and the entry that was read from s: none where no byte is left, or where the number is a refusal's
abbrev pub answer_of : List ℕ → Result TlvRead Refusal → ℕ × Option Tlv
answer_of s (Ok (Entry t b l next)) = (0, some (record { type = t; value = take l (drop b s) }))
answer_of s (Ok End) = (0, none)
answer_of s (Err e) = (number_of e, none)
