-- The lines of paper 01, "On both sides of a line", that speak of TLVs and are marked (P), of a list and of a single read.
-- Assumes nothing.
use Rattle.std.specs.Prelude.{◌≡◌, refl, List, [], ◌∷◌, ℕ, Ok}
use Rattle.wire.specs.Be.{be_at}
use Rattle.refused.specs.Refusal.{refused}
use Rattle.tlv.specs.declared.TlvRead.TheVariants.{Entry}
use Rattle.tlv.specs.Tlv.{entry_at, read_at, list_check, check_list}

-- 00080000 is refused 1
abbrev empty_last : List ℕ
empty_last = 0x00 ∷ 0x08 ∷ 0x00 ∷ 0x00 ∷ []

abbrev pub EmptyLast : Type 0
EmptyLast = (check_list empty_last ≡ 1) × (read_at empty_last 0 ≡ refused 1)

pub empty-last : EmptyLast
unfolding entry_at list_check be_at
empty-last = (refl, refl)

-- 00080000 000800020102 passes
abbrev empty_first : List ℕ
empty_first = 0x00 ∷ 0x08 ∷ 0x00 ∷ 0x00 ∷ 0x00 ∷ 0x08 ∷ 0x00 ∷ 0x02 ∷ 0x01 ∷ 0x02 ∷ []

abbrev pub EmptyFirst : Type 0
EmptyFirst =
    (check_list empty_first ≡ 0) × (read_at empty_first 0 ≡ Ok (Entry 8 4 0 (record { at = 4 }))) × (read_at empty_first 4 ≡ Ok (Entry 8 8 2 (record { at = 10 })))

pub empty-first : EmptyFirst
unfolding entry_at list_check be_at
empty-first = (refl, refl, refl)

-- 000800010102 is refused 4
abbrev odd_length : List ℕ
odd_length = 0x00 ∷ 0x08 ∷ 0x00 ∷ 0x01 ∷ 0x01 ∷ 0x02 ∷ []

abbrev pub OddLength : Type 0
OddLength = (check_list odd_length ≡ 4) × (read_at odd_length 0 ≡ refused 4)

pub odd-length : OddLength
unfolding entry_at list_check be_at
odd-length = (refl, refl)
