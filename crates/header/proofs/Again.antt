-- What was read and is written again: the bytes that stood there, but for what the reader ignores and the control field.
-- Assumes nothing.
use Rattle.std.specs.Prelude.{ℕ, ◌+◌, ◌-◌, ◌*◌, ◌/◌, ◌%◌, ◌≤◌, ◌<◌, ◌≡◌, refl, Bool, true, false, List, [], ◌∷◌, ◌++◌, eqb, length, take, drop, Some}
use Rattle.std.proofs.Common.{zero-le, sym, ap, ap₂, ◌∙◌, arith}
use Rattle.std.specs.Int.{w8, w64}
use mir.ValLaws.{of_z-to_z}
use Rattle.wire.specs.Be.{Bytes, be_at, bytes_of, put}
use Rattle.wire.proofs.BeLaws.{be_at-bound, length-put}
use Rattle.wire.specs.Below.{holds_below, agree}
use Rattle.wire.specs.Flags.{num, bit, pack}
use Rattle.wire.specs.Layout.{fields_at, bytes_of_all, Fit}
use Rattle.wire.proofs.LayoutLaws.{length-bytes_of_all, bytes-fields, bytes-fields-then, fields-put}
use Rattle.wire.specs.Write.{wrote_0}
use Rattle.header.specs.declared.Header.{Header}
use Rattle.message_type.specs.declared.MessageType.{MessageType}
use Rattle.message_type.specs.Types.{type_of, type_number, control_of, number-back}
use Rattle.header.specs.Wire.{port_identity_at, header_with, header_of, header_at, read_header, header_widths, header_values, header_bytes, with_header, fits_of, write_answer, write_exit}
use Rattle.header.proofs.Laws.{fitted}
use Rattle.header.proofs.RoundTrip.{from_values, by_layout, read_wired, by-wired, whole-read}

-- the bits of bytes 6 and 7 that have names: 0, 1, 2, 5, 6 and 0 to 6
abbrev pub named6 : ℕ → ℕ
named6 b = b % 8 + b / 32 % 4 * 32

abbrev pub named7 : ℕ → ℕ
named7 b = b % 128

-- n bytes from `at` on
abbrev pub part : List ℕ → ℕ → ℕ → List ℕ
part s at n = take n (drop at s)

-- the first 34 bytes, with the ignored bits and bytes 16 to 19 cleared and the given control field
unfoldable pub cleared : List ℕ → ℕ → List ℕ
cleared s control =
    part s 0 6
    ++ (bytes_of 1 (named6 (be_at s 6 1))
    ++ (bytes_of 1 (named7 (be_at s 7 1))
    ++ (part s 8 8
    ++ (bytes_of 4 0
    ++ (part s 20 12
    ++ (bytes_of 1 control
    ++ part s 33 1))))))

-- ---- the numbers that are written

-- the named flags of a byte, packed again, by a test over every byte
abbrev again6 : ℕ → ℕ
again6 b = pack (bit b 0 ∷ bit b 1 ∷ bit b 2 ∷ false ∷ false ∷ bit b 5 ∷ bit b 6 ∷ [])

abbrev again7 : ℕ → ℕ
again7 b = pack (bit b 0 ∷ bit b 1 ∷ bit b 2 ∷ bit b 3 ∷ bit b 4 ∷ bit b 5 ∷ bit b 6 ∷ [])

pack6 : (b : ℕ) → b < 256 → again6 b ≡ named6 b
pack6 = agree again6 named6 256 refl

pack7 : (b : ℕ) → b < 256 → again7 b ≡ named7 b
pack7 = agree again7 named7 256 refl

-- are those that were read, but for the flags' bytes, the four bytes and the control field
abbrev again : List ℕ → ℕ → List ℕ
again s control =
    be_at s 0 1 ∷ be_at s 1 1 ∷ be_at s 2 2 ∷ be_at s 4 1 ∷ be_at s 5 1 ∷ named6 (be_at s 6 1) ∷ named7 (be_at s 7 1) ∷ be_at s 8 8 ∷ 0
    ∷ be_at s 20 8 ∷ be_at s 28 2 ∷ be_at s 30 2 ∷ control ∷ be_at s 33 1 ∷ []

values-again : (s : List ℕ) (type control : ℕ) → Bytes s → type ≡ be_at s 0 1 % 16 → header_values (header_at s) type control (be_at s 2 2) ≡ again s control
unfolding header_values header_of header_with
values-again s type control b e =
    let b0 = be_at-bound s 0 1 b in
    let b5 = be_at-bound s 5 1 b in
    let first : (be_at s 0 1 / 16 * 256 + be_at s 5 1) / 256 * 16 + type ≡ be_at s 0 1 = omega arith in
    let versions : be_at s 1 1 / 16 * 16 + be_at s 1 1 % 16 ≡ be_at s 1 1 = omega arith in
    let low : (be_at s 0 1 / 16 * 256 + be_at s 5 1) % 256 ≡ be_at s 5 1 = omega arith in λ i.
    (first i ∷ versions i ∷ be_at s 2 2 ∷ be_at s 4 1 ∷ low i ∷ pack6 (be_at s 6 1) (be_at-bound s 6 1 b) i ∷ pack7 (be_at s 7 1) (be_at-bound s 7 1 b) i
    ∷ of_z-to_z w64 (be_at s 8 8) (record { fits = be_at-bound s 8 8 b }) i ∷ 0 ∷ be_at s 20 8 ∷ be_at s 28 2 ∷ be_at s 30 2 ∷ control
    ∷ of_z-to_z w8 (be_at s 33 1) (record { fits = be_at-bound s 33 1 b }) i ∷ [])

-- ---- and their bytes

bytes-again : (s : List ℕ) (control : ℕ) → Bytes s → 34 ≤ length s → bytes_of_all header_widths (again s control) ≡ cleared s control
unfolding cleared header_widths fields_at bytes_of_all
bytes-again s control b le =
    bytes-fields-then (1 ∷ 1 ∷ 2 ∷ 1 ∷ 1 ∷ []) s 0 (drop 5 header_widths) (drop 5 (again s control)) _ b (omega arith) refl
    (ap (λ (r : List ℕ). bytes_of 1 (named6 (be_at s 6 1)) ++ (bytes_of 1 (named7 (be_at s 7 1)) ++ r))
    (bytes-fields-then (8 ∷ []) s 8 (drop 8 header_widths) (drop 8 (again s control)) _ b (omega arith) refl
    (ap (λ (r : List ℕ). bytes_of 4 0 ++ r)
    (bytes-fields-then (8 ∷ 2 ∷ 2 ∷ []) s 20 (drop 12 header_widths) (drop 12 (again s control)) _ b (omega arith) refl
    (ap (λ (r : List ℕ). bytes_of 1 control ++ r)
    (bytes-fields (1 ∷ []) s 33 b le))))))

-- a header that was read, written again with the length it had
pub header-again : (s : List ℕ) (t : MessageType) → Bytes s → 34 ≤ length s → type_of (be_at s 0 1 % 16) ≡ Some t
    → header_bytes (header_at s) t (be_at s 2 2) ≡ cleared s (control_of t)
header-again s t b le e =
    ap (bytes_of_all header_widths) (values-again s (type_number t) (control_of t) b (number-back (be_at s 0 1 % 16) t e)) ∙ bytes-again s (control_of t) b le

-- of the calls: the writer takes it, and any target then holds those bytes at its start and is else as it lay
pub calls-again : (s target : List ℕ) (t : MessageType) → Bytes s → 34 ≤ length s → type_of (be_at s 0 1 % 16) ≡ Some t → 34 ≤ be_at s 2 2 → 34 ≤ length target
    → (write_answer target (header_at s) (be_at s 2 2 - 34) ≡ 0)
    × (write_exit target (header_at s) t (be_at s 2 2 - 34) ≡ put target 0 (cleared s (control_of t)))
unfolding with_header
calls-again s target t b le e long room =
    let content = be_at s 2 2 - 34 in
    let w = whole-read s b in
    let fits = fitted _ _ _ content (record { sdo-fits = w.sdo; major-fits = w.major; minor-fits = w.minor; content-fits = omega (arith, be_at-bound s 2 2 b) }) in
    let wrote = wrote_0 (fits_of (header_at s) content) 34 target (with_header target (header_at s) t (content + 34)) fits room in
    let size : content + 34 ≡ be_at s 2 2 = omega arith in
    (sym wrote.0, sym wrote.1 ∙ ap (λ (n : ℕ). put target 0 (header_bytes (header_at s) t n)) size ∙ ap (put target 0) (header-again s t b le e))

-- ---- what is ignored

num-same : (x y : Bool) → num x ≡ num y → x ≡ y
num-same true true e = refl
num-same true false e = absurd (omega arith)
num-same false true e = absurd (omega arith)
num-same false false e = refl

-- a flag that is the same in every byte with other bits cleared, as a test over all bytes
abbrev Keeps : (ℕ → ℕ) → ℕ → Type 0
Keeps f k = holds_below (λ (b : ℕ). eqb (num (bit (f b) k)) (num (bit b k))) 256 ≡ true

kept : (f : ℕ → ℕ) (k : ℕ) → Keeps f k → (b : ℕ) → b < 256 → bit (f b) k ≡ bit b k
kept f k t b h = num-same (bit (f b) k) (bit b k) (agree (λ (b : ℕ). num (bit (f b) k)) (λ (b : ℕ). num (bit b k)) 256 t b h)

-- so the numbers written again mean the same header
same-meaning : (s : List ℕ) → Bytes s
    → header_of (be_at s 0 1) (be_at s 1 1) (be_at s 4 1) (be_at s 5 1) (named6 (be_at s 6 1)) (named7 (be_at s 7 1)) (be_at s 8 8) (port_identity_at s 20) (be_at s 30 2) (be_at s 33 1)
    ≡ header_at s
unfolding header_of header_with
same-meaning s b =
    let h6 = be_at-bound s 6 1 b in
    let h7 = be_at-bound s 7 1 b in
    let h = header_at s in λ i.
    record {
      sdo_id = h.sdo_id;
      version = h.version;
      domain_number = h.domain_number;
      alternate_master_flag = kept named6 0 refl (be_at s 6 1) h6 i;
      two_step_flag = kept named6 1 refl (be_at s 6 1) h6 i;
      unicast_flag = kept named6 2 refl (be_at s 6 1) h6 i;
      ptp_profile_specific_1 = kept named6 5 refl (be_at s 6 1) h6 i;
      ptp_profile_specific_2 = kept named6 6 refl (be_at s 6 1) h6 i;
      leap61 = kept named7 0 refl (be_at s 7 1) h7 i;
      leap59 = kept named7 1 refl (be_at s 7 1) h7 i;
      current_utc_offset_valid = kept named7 2 refl (be_at s 7 1) h7 i;
      ptp_timescale = kept named7 3 refl (be_at s 7 1) h7 i;
      time_tracable = kept named7 4 refl (be_at s 7 1) h7 i;
      frequency_tracable = kept named7 5 refl (be_at s 7 1) h7 i;
      synchronization_uncertain = kept named7 6 refl (be_at s 7 1) h7 i;
      correction_field = h.correction_field;
      source_port_identity = h.source_port_identity;
      sequence_id = h.sequence_id;
      log_message_interval = h.log_message_interval;
    }

again-fits : (s : List ℕ) (control : ℕ) → Bytes s → control < 256 → Fit header_widths (again s control)
unfolding Fit header_widths
again-fits s control b h =
    omega (
      arith,
      be_at-bound s 0 1 b,
      be_at-bound s 1 1 b,
      be_at-bound s 2 2 b,
      be_at-bound s 4 1 b,
      be_at-bound s 5 1 b,
      be_at-bound s 8 8 b,
      be_at-bound s 20 8 b,
      be_at-bound s 28 2 b,
      be_at-bound s 30 2 b,
      be_at-bound s 33 1 b,
    )

-- a header reads the same with the ignored bits and bytes cleared and with any control field
pub ignored : (s : List ℕ) (control : ℕ) → Bytes s → 34 ≤ length s → control < 256 → read_header (put s 0 (cleared s control)) ≡ read_header s
unfolding from_values header_widths
ignored s control b le h =
    let bs = bytes_of_all header_widths (again s control) in
    let e : cleared s control ≡ bs = sym (bytes-again s control b le) in
    let l : length (put s 0 bs) ≡ length s = length-put s 0 bs (rw length-bytes_of_all le) in
    let v : fields_at header_widths (put s 0 bs) 0 ≡ again s control =
    fields-put s 0 header_widths (again s control) zero-le (again-fits s control b h) in
    ap (λ (x : List ℕ). read_header (put s 0 x)) e
    ∙ by-wired (put s 0 bs)
    ∙ ap₂ read_wired l (by_layout (put s 0 bs) ∙ ap from_values v)
    ∙ ap (λ (g : Header). read_wired (length s) (record { header = g; type = be_at s 0 1 % 16; control = control; size = be_at s 2 2 })) (same-meaning s b)
    ∙ sym (by-wired s)
