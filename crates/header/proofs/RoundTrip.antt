-- The header as a codec: reading what was written gives the same values.
-- Assumes nothing.
use Rattle.std.specs.Prelude.{ℕ, ◌+◌, ◌*◌, ◌/◌, ◌%◌, ◌^◌, ◌≤◌, ◌<◌, ◌≡◌, refl, cond, List, leb, length, get_or, Result, Ok}
use Rattle.std.proofs.Common.{zero-le, sym, ap, ◌∙◌, SFits}
use native.Mathlib.Omega.{arith}
use mir.Syntax.{w8, w64}
use mir.ValLaws.{of_z_fits, to_z-of_z, to_z-Fits}
use Rattle.wire.specs.Be.{Bytes, be_at, put}
use Rattle.wire.proofs.BeLaws.{be_at-bound, length-put, put-over, bytes-put}
use Rattle.wire.proofs.Codec.{Codec, write_as, trip}
use Rattle.wire.specs.Flags.{bit-pack, pack-bound}
use Rattle.wire.specs.Layout.{fields_at, Fit}
use Rattle.wire.proofs.LayoutLaws.{length-bytes_of_all, bytes-bytes_of_all, fields-before}
use Rattle.wire.specs.Write.{done}
use Rattle.header.specs.declared.Header.{Header}
use Rattle.message_type.specs.declared.MessageType.{MessageType}
use Rattle.header.specs.declared.DeserializedHeader.{DeserializedHeader}
use Rattle.refused.specs.declared.Refusal.{Refusal}
use Rattle.refused.specs.Refusal.{refused}
use Rattle.message_type.specs.Types.{type_of, type_number, control_of, number-le, control-le, type-back}
use Rattle.header.specs.Wire.{header_with, header_of, header_at, header_widths, header_values, header_bytes, bits6, bits7, with_header, read_type, read_header, fits_of, write_answer, write_exit}
use Rattle.header.proofs.Laws.{fitting, read_0}

-- every field is a value of its type, as far as the wire shows
pub record Typed (h : Header) : Type 0 where
  pub domain : h.domain_number < 256
  pub correction : SFits w64 h.correction_field
  pub clock : h.source_port_identity.clock_identity < 2 ^ 64
  pub port : h.source_port_identity.port_number < 65536
  pub sequence : h.sequence_id < 65536
  pub interval : SFits w8 h.log_message_interval

-- and the wire can hold it
pub record Whole (h : Header) : Type 0 where
  pub sdo : h.sdo_id ≤ 0xFFF
  pub major : h.version.major ≤ 15
  pub minor : h.version.minor ≤ 15
  pub typed : Typed h

-- ---- the header as a codec: what the 14 numbers hold, the control field included

pub record Wired : Type 0 where
  pub header : Header
  pub type : ℕ
  pub control : ℕ
  pub size : ℕ

pub record Valid (w : Wired) : Type 0 where
  pub whole : Whole w.header
  pub type-fits : w.type ≤ 15
  pub control-fits : w.control < 256
  pub size_fits : w.size < 65536

-- what the numbers of the fields mean
unfoldable pub from_values : List ℕ → Wired
from_values v =
    record {
      header =
          header_of (get_or v 0 0) (get_or v 1 0) (get_or v 3 0) (get_or v 4 0) (get_or v 5 0) (get_or v 6 0) (get_or v 7 0)
          (record { clock_identity = get_or v 9 0; port_number = get_or v 10 0 }) (get_or v 11 0) (get_or v 13 0);
      type = get_or v 0 0 % 16;
      control = get_or v 12 0;
      size = get_or v 2 0;
    }

abbrev values_of : Wired → List ℕ
values_of w = header_values w.header w.type w.control w.size

module _ (w : Wired) (v : Valid w) where
  fit : Fit header_widths (values_of w)
  unfolding Fit header_widths header_values
  fit =
      omega (
        arith,
        pack-bound (bits6 w.header),
        pack-bound (bits7 w.header),
        of_z_fits w64 w.header.correction_field v.whole.typed.correction,
        of_z_fits w8 w.header.log_message_interval v.whole.typed.interval,
      )

  -- the numbers mean what they were made of
  pub meaning : from_values (values_of w) ≡ w
  unfolding from_values header_values header_of header_with
  meaning =
      let sdo-back : (w.header.sdo_id / 256 * 16 + w.type) / 16 * 256 + w.header.sdo_id % 256 ≡ w.header.sdo_id = omega arith in
      let major-back : (w.header.version.minor * 16 + w.header.version.major) % 16 ≡ w.header.version.major = omega arith in
      let minor-back : (w.header.version.minor * 16 + w.header.version.major) / 16 ≡ w.header.version.minor = omega arith in
      let type-back : (w.header.sdo_id / 256 * 16 + w.type) % 16 ≡ w.type = omega arith in λ i.
      record {
        header = record {
          sdo_id = sdo-back i;
          version = record { major = major-back i; minor = minor-back i };
          domain_number = w.header.domain_number;
          alternate_master_flag = bit-pack (bits6 w.header) 0 i;
          two_step_flag = bit-pack (bits6 w.header) 1 i;
          unicast_flag = bit-pack (bits6 w.header) 2 i;
          ptp_profile_specific_1 = bit-pack (bits6 w.header) 5 i;
          ptp_profile_specific_2 = bit-pack (bits6 w.header) 6 i;
          leap61 = bit-pack (bits7 w.header) 0 i;
          leap59 = bit-pack (bits7 w.header) 1 i;
          current_utc_offset_valid = bit-pack (bits7 w.header) 2 i;
          ptp_timescale = bit-pack (bits7 w.header) 3 i;
          time_tracable = bit-pack (bits7 w.header) 4 i;
          frequency_tracable = bit-pack (bits7 w.header) 5 i;
          synchronization_uncertain = bit-pack (bits7 w.header) 6 i;
          correction_field = to_z-of_z w64 w.header.correction_field v.whole.typed.correction i;
          source_port_identity = w.header.source_port_identity;
          sequence_id = w.header.sequence_id;
          log_message_interval = to_z-of_z w8 w.header.log_message_interval v.whole.typed.interval i;
        };
        type = type-back i;
        control = w.control;
        size = w.size;
      }

pub header_codec : Codec Wired
header_codec = record { widths = header_widths; values = values_of; meaning = from_values; Valid = Valid; fit = fit; back = meaning }

-- the reader goes by it
abbrev pub wired_at : List ℕ → Wired
wired_at s = record { header = header_at s; type = be_at s 0 1 % 16; control = be_at s 32 1; size = be_at s 2 2 }

pub by_layout : (s : List ℕ) → wired_at s ≡ from_values (fields_at header_widths s 0)
unfolding from_values fields_at header_widths
by_layout s = refl

-- and what it answers is told by the number of bytes and those numbers
abbrev pub read_wired : ℕ → Wired → Result DeserializedHeader Refusal
read_wired n w = cond (leb 34 n) (read_type (type_of w.type) w.header w.size) (refused 1)

pub by-wired : (s : List ℕ) → read_header s ≡ read_wired (length s) (wired_at s)
unfolding read_header
by-wired s = refl

-- ---- reading what was written

abbrev pub wired_of : Header → MessageType → ℕ → Wired
wired_of h t size = record { header = h; type = type_number t; control = control_of t; size = size }

valid : (h : Header) (t : MessageType) (size : ℕ) → Whole h → size < 65536 → Valid (wired_of h t size)
valid h t size w hs = record { whole = w; type-fits = omega (arith, number-le t); control-fits = omega (arith, control-le t); size_fits = hs }

pub wired-trip : (s : List ℕ) (h : Header) (t : MessageType) (size : ℕ) → Whole h → size < 65536 → wired_at (with_header s h t size) ≡ wired_of h t size
unfolding with_header header_codec
wired-trip s h t size w hs =
    by_layout (write_as header_codec s 0 (wired_of h t size)) ∙ trip header_codec s 0 (wired_of h t size) (valid h t size w hs) zero-le

pub length-with_header : (s : List ℕ) (h : Header) (t : MessageType) (size : ℕ) → 34 ≤ length s → length (with_header s h t size) ≡ length s
unfolding with_header header_widths
length-with_header s h t size le = length-put s 0 (header_bytes h t size) (rw length-bytes_of_all (omega arith))

-- reading a header that was written gives the same header, type and length
pub header-trip : (s : List ℕ) (h : Header) (t : MessageType) (size : ℕ) → Whole h → size < 65536 → 34 ≤ length s
    → read_header (with_header s h t size) ≡ Ok (record { header = h; message_type = t; message_length = size })
header-trip s h t size w hs le =
    let out = with_header s h t size in
    let e = wired-trip s h t size w hs in
    let room : 34 ≤ length out = omega (arith, length-with_header s h t size le) in
    let told = ap type_of (ap (λ (x : Wired). x.type) e) ∙ type-back t in
    sym (read_0 out t room told) ∙ (λ i. Ok (record { header = (e i).header; message_type = t; message_length = (e i).size }))

-- of the calls: where the writer answers 0, the reader gives back what was written
pub calls-trip : (s : List ℕ) (h : Header) (t : MessageType) (content : ℕ) → Typed h → write_answer s h content ≡ 0
    → read_header (write_exit s h t content) ≡ Ok (record { header = h; message_type = t; message_length = content + 34 })
calls-trip s h t content ty e =
    let d = done (fits_of h content) 34 s (with_header s h t (content + 34)) e in
    let f = fitting _ _ _ _ d.fit in
    rw d.exit
    (header-trip s h t (content + 34) (record { sdo = f.sdo-fits; major = f.major-fits; minor = f.minor-fits; typed = ty }) (omega arith) d.room)

-- ---- what is read

-- is whole, so it can be written
pub whole-read : (s : List ℕ) → Bytes s → Whole (header_at s)
unfolding header_of header_with
whole-read s b =
    record {
      sdo = omega (arith, be_at-bound s 0 1 b, be_at-bound s 5 1 b);
      major = omega arith;
      minor = omega (arith, be_at-bound s 1 1 b);
      typed = record {
        domain = be_at-bound s 4 1 b;
        correction = to_z-Fits w64 (be_at s 8 8) (record { fits = be_at-bound s 8 8 b });
        clock = be_at-bound s 20 8 b;
        port = be_at-bound s 28 2 b;
        sequence = be_at-bound s 30 2 b;
        interval = to_z-Fits w8 (be_at s 33 1) (record { fits = be_at-bound s 33 1 b });
      };
    }

-- ---- writing over

-- the same written twice changes nothing the second time
pub header-twice : (s : List ℕ) (h : Header) (t : MessageType) (size : ℕ) → 34 ≤ length s
    → with_header (with_header s h t size) h t size ≡ with_header s h t size
unfolding with_header header_widths
header-twice s h t size le = put-over s 0 (header_bytes h t size) (header_bytes h t size) refl (rw length-bytes_of_all (omega arith))

-- bytes that are put after the header leave it as it was
pub header-kept : (s : List ℕ) (k : ℕ) (bs : List ℕ) → 34 ≤ k → k ≤ length s → wired_at (put s k bs) ≡ wired_at s
unfolding header_codec header_widths
header-kept s k bs h le =
    by_layout (put s k bs) ∙ ap from_values (fields-before header_widths s 0 k bs (omega arith) le) ∙ sym (by_layout s)

pub bytes-with_header : (s : List ℕ) (h : Header) (t : MessageType) (size : ℕ) → Bytes s → Bytes (with_header s h t size)
unfolding with_header
bytes-with_header s h t size b = bytes-put s 0 (header_bytes h t size) b (bytes-bytes_of_all header_widths (header_values h (type_number t) (control_of t) size))
