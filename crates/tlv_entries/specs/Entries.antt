-- A list of TLVs as entries one after the other: the rule of a list takes exactly the bytes of such a list.
-- Assumes nothing.
use Rattle.std.specs.Prelude.{ℕ, ◌%◌, ◌≤◌, ◌<◌, ◌≡◌}
use mathlib.Core.List.{List, [], ◌∷◌}
use Rattle.std.proofs.Math.ListN.{length}
use Rattle.tlv.specs.Tlv.{Tlv}
use Rattle.tlv_builder.specs.Builder.{list_bytes}

-- an entry that the wire can hold: a type of 16 bits, a value of even length that fits the length field
pub record Even (e : Tlv) : Type 0 where
  pub type : e.type < 65536
  pub even : length e.value % 2 ≡ 0
  pub fits : length e.value < 65536

abbrev pub AllEven : List Tlv → Type 0
AllEven [] = Unit
AllEven (e ∷ es) = Even e × AllEven es

-- the last entry is not empty
abbrev pub LastFull : List Tlv → Type 0
LastFull [] = Unit
LastFull (e ∷ []) = 0 < length e.value
LastFull (e ∷ f ∷ es) = LastFull (f ∷ es)

-- at each entry `least` bytes remain
abbrev pub Remain : (least : ℕ) → List Tlv → Type 0
Remain least [] = Unit
Remain least (e ∷ es) = (least ≤ length (list_bytes (e ∷ es))) × Remain least es

-- ---- and what passes is the bytes of entries

-- the even entries of some bytes
pub record Whole (s : List ℕ) : Type 0 where
  pub list : List Tlv
  pub bytes : list_bytes list ≡ s
  pub even : AllEven list

-- at each of which `least` bytes remain
pub record Entries (least : ℕ) (s : List ℕ) : Type 0 where
  pub entries : Whole s
  pub remain : Remain least entries.list

-- ---- what a reader and a writer take

-- a reader takes exactly the bytes of even entries of which the last is not empty
pub record Taken (s : List ℕ) : Type 0 where
  pub entries : Whole s
  pub full : LastFull entries.list
