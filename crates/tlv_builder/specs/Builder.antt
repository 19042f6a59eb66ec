-- The bytes of an entry, and what a builder answers and writes.
-- Assumes nothing.
use Rattle.std.specs.Prelude.{ℕ, ◌+◌, ◌%◌, List, [], ◌∷◌, ◌++◌, Bool, false, cond, length, leb, eqb, Result, Ok}
use Rattle.wire.specs.Be.{bytes_of, put}
use Rattle.wire.specs.Refusal.{on_zero}
use Rattle.wire.specs.Write.{write_number, write_buffer}
use Rattle.tlv.specs.Tlv.{Tlv}
use Rattle.refused.specs.declared.Refusal.{Refusal}
use Rattle.refused.specs.Refusal.{refused}
use Rattle.tlv_builder.specs.declared.TlvSetBuilder.{TlvSetBuilder}

-- u16 type, u16 length, value
unfoldable pub entry_bytes : ℕ → List ℕ → List ℕ
entry_bytes t v = bytes_of 2 t ++ bytes_of 2 (length v) ++ v

-- the bytes of entries, one after the other
unfoldable pub list_bytes : List Tlv → List ℕ
list_bytes [] = []
list_bytes (e ∷ es) = entry_bytes e.type e.value ++ list_bytes es

-- what the wire can hold: a value of even length, of 65,534 bytes at most
unfoldable pub entry_fits : ℕ → Bool
entry_fits n = cond (eqb (n % 2) 0) (leb n 65534) false

-- the answer of the entry writer, and the buffer afterwards
abbrev pub entry_answer : List ℕ → List ℕ → ℕ
entry_answer s v = write_number (entry_fits (length v)) (length v + 4) s

abbrev pub entry_exit : List ℕ → ℕ → List ℕ → List ℕ
entry_exit s t v = write_buffer (entry_fits (length v)) (length v + 4) s (put s 0 (entry_bytes t v))

-- the number that the builder answers, and the buffer afterwards: an entry after the `used` bytes that are there
abbrev pub add_answer : List ℕ → ℕ → List ℕ → ℕ
add_answer s used v = write_number (entry_fits (length v)) (used + (length v + 4)) s

abbrev pub add_exit : List ℕ → ℕ → ℕ → List ℕ → List ℕ
add_exit s used t v = write_buffer (entry_fits (length v)) (used + (length v + 4)) s (put s used (entry_bytes t v))

-- the builder afterwards, or the refusal
unfoldable pub add_read : List ℕ → ℕ → List ℕ → Result TlvSetBuilder Refusal
add_read s used v = on_zero (add_answer s used v) (Ok (record { used = used + (length v + 4) })) refused
