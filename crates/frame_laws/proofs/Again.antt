-- A frame that was read, written again: once, and a second time.
-- Assumes nothing.
use Rattle.std.specs.Prelude.{ℕ, ◌+◌, ◌-◌, ◌≤◌, ◌≡◌, true, drop, Ok}
use Rattle.std.proofs.Math.Path.{sym, ap, ap₂}
use Rattle.std.proofs.Common.{◌∙◌, subst, arith, le-leb, length-drop, length-take-le, take-add, drop-drop}
use mathlib.Core.List.{List, ◌++◌, append_assoc}
use Rattle.std.proofs.Math.ListN.{length, take}
use Rattle.wire.specs.Be.{Bytes, bytes_of, put}
use Rattle.wire.proofs.BeLaws.{bytes-be, be_at-bound}
use Rattle.wire.specs.Write.{wrote_0}
use Rattle.message_type.specs.declared.MessageType.TheVariants.{Announce}
use Rattle.header.specs.Wire.{header_at, header_bytes}
use Rattle.header.proofs.Laws.{fitted}
use Rattle.header.proofs.Again.{part, cleared, header-again}
use Rattle.header.proofs.RoundTrip as header
use Rattle.announce.specs.declared.AnnounceMessage.{AnnounceMessage}
use Rattle.announce.specs.Wire.{announce_of, announce_with}
use Rattle.announce.proofs.Message.{content-again, reserved_there}
use Rattle.announce.proofs.RoundTrip as announce
use Rattle.tlv_entries.proofs.Entries.{whole}
use Rattle.frame.specs.declared.Message.{Message}
use Rattle.frame.specs.Frame.{size_at, tlvs_at, message_at, read_frame}
use Rattle.frame_writer.specs.Frame.{fits_of, with_frame, write_answer, write_exit}
use Rattle.frame_writer.specs.Laws.{fit-by-tlvs}
use Rattle.frame_laws.specs.Accepted.{Accepted}
use Rattle.frame_laws.proofs.Accepted.{accepts, accepted}
use Rattle.frame_laws.proofs.RoundTrip.{frame_bytes, reserved_in, frame_laid, out-tlvs, out-message, out-accepted, frame_twice}

-- ---- written again

module _ (s target : List ℕ) (b : Bytes s) (bt : Bytes target) (acc : Accepted s) (room : size_at s ≤ length target) where
  abbrev tlvs : List ℕ
  tlvs = tlvs_at s

  abbrev a : AnnounceMessage
  a = (message_at s).announce

  tlvs-length : length tlvs + 64 ≡ size_at s
  tlvs-length =
      let l : length tlvs ≡ size_at s - 64 = length-take-le (size_at s - 64) (drop 64 s) (omega (arith, length-drop 64 s, acc.long, acc.there)) in
      omega (arith, l, acc.long)

  -- what was read fits the wire
  fits-again : fits_of a tlvs ≡ true
  unfolding announce_of announce_with
  fits-again =
      let w = header.whole-read s b in
      sym (fit-by-tlvs a tlvs
      (fitted _ _ _ (length tlvs + 30) (record { sdo-fits = w.sdo; major-fits = w.major; minor-fits = w.minor; content-fits = omega (arith, tlvs-length, be_at-bound s 2 2 b) }))
      (le-leb _ _ (announce.whole-read (header_at s) s 34 b).seconds))
      ∙ whole tlvs acc.tlvs.entries

  -- its bytes again: the ignored bits and bytes cleared, control 5, and a given byte 46
  bytes-again : (reserved : ℕ)
      → frame_bytes reserved a tlvs ≡ cleared s 5 ++ (part s 34 12 ++ (bytes_of 1 reserved ++ part s 47 (size_at s - 47)))
  unfolding frame_bytes announce_of announce_with
  bytes-again reserved =
      let n = size_at s - 64 in
      let far : 17 + n ≡ size_at s - 47 = omega (arith, acc.long) in
      let more : part s 47 17 ++ tlvs ≡ part s 47 (size_at s - 47) =
      ap (λ (l : List ℕ). part s 47 17 ++ take n l) (sym (drop-drop 17 47 s)) ∙ sym (take-add 17 n (drop 47 s)) ∙ ap (λ (k : ℕ). take k (drop 47 s)) far in
      ap₂ (λ (x y : List ℕ). x ++ (y ++ tlvs))
      (ap (header_bytes (header_at s) Announce) tlvs-length ∙ header-again s Announce b (omega (arith, acc.long, acc.there)) acc.type)
      (content-again s (header_at s) reserved b (omega (arith, acc.long, acc.there)))
      ∙ ap (λ (l : List ℕ). cleared s 5 ++ l)
      (append_assoc (part s 34 12) (bytes_of 1 reserved ++ part s 47 17) tlvs
      ∙ ap (λ (l : List ℕ). part s 34 12 ++ l) (append_assoc (bytes_of 1 reserved) (part s 47 17) tlvs ∙ ap (λ (l : List ℕ). bytes_of 1 reserved ++ l) more))

  wh : header.Whole a.header
  unfolding announce_of announce_with
  wh = header.whole-read s b

  wa : announce.Whole a
  wa = announce.whole-read (header_at s) s 34 b

  wide : length tlvs + 64 ≤ length target
  wide = omega (arith, tlvs-length)

  abbrev again : List ℕ
  again = with_frame target a tlvs

  -- the writer takes it
  taken-again : (write_answer target a tlvs ≡ 0) × (write_exit target a tlvs ≡ again)
  taken-again =
      let w = wrote_0 (fits_of a tlvs) (length tlvs + 64) target again fits-again wide in
      (sym w.0, sym w.1)

  written-again : again ≡ put target 0 (cleared s 5 ++ (part s 34 12 ++ (part target 46 1 ++ part s 47 (size_at s - 47))))
  written-again =
      let r = reserved_in target a (length tlvs + 64) in
      let byte : bytes_of 1 r ≡ part target 46 1 =
      ap (bytes_of 1) (reserved_there target a.header (length tlvs + 64) (omega (arith, wide))) ∙ bytes-be target 46 1 bt (omega (arith, wide)) in
      frame_laid target a tlvs wide ∙ ap (put target 0) (bytes-again r ∙ ap (λ (l : List ℕ). cleared s 5 ++ (part s 34 12 ++ (l ++ part s 47 (size_at s - 47)))) byte)

  -- and reading it gives the same message with the same TLVs
  read_again : read_frame again ≡ Ok (message_at s)
  read_again =
      let size : length tlvs + 64 ≤ 65535 = omega (arith, tlvs-length, be_at-bound s 2 2 b) in
      accepts again (out-accepted target bt a tlvs wide size wh wa acc.tlvs)
      ∙ ap Ok (out-message target bt a tlvs wide size wh wa)
      ∙ (λ i. Ok (record { announce = a; tlv_start = 64; tlv_end = tlvs-length i }))

  tlvs-again : tlvs_at again ≡ tlvs
  tlvs-again = out-tlvs target bt a tlvs wide (omega (arith, tlvs-length, be_at-bound s 2 2 b)) wh wa

-- of the calls: a frame that was read is written again into any target with room for it. The ignored bits and bytes are cleared, control
-- is 5, byte 46 is as it lay in the target, and what lies past the message stays
pub frame_again : (s target : List ℕ) (m : Message) → Bytes s → Bytes target → read_frame s ≡ Ok m → size_at s ≤ length target
    → (write_answer target m.announce (tlvs_at s) ≡ 0)
    × (write_exit target m.announce (tlvs_at s) ≡ put target 0 (cleared s 5 ++ (part s 34 12 ++ (part target 46 1 ++ part s 47 (size_at s - 47)))))
frame_again s target m b bt e room =
    let r = accepted s m b e in
    let t = taken-again s target b bt r.0 room in
    subst
    (λ (x : Message). (write_answer target x.announce (tlvs_at s) ≡ 0)
    × (write_exit target x.announce (tlvs_at s) ≡ put target 0 (cleared s 5 ++ (part s 34 12 ++ (part target 46 1 ++ part s 47 (size_at s - 47))))))
    (sym r.1) (t.0, t.1 ∙ written-again s target b bt r.0 room)

-- a second time changes nothing: that target is read as the same message with the same TLVs, and writing those into it again leaves it as it is
pub frame_again-twice : (s target : List ℕ) (m : Message) → Bytes s → Bytes target → read_frame s ≡ Ok m → size_at s ≤ length target
    → (read_frame (write_exit target m.announce (tlvs_at s)) ≡ Ok m)
    × (tlvs_at (write_exit target m.announce (tlvs_at s)) ≡ tlvs_at s)
    × (write_exit (write_exit target m.announce (tlvs_at s)) m.announce (tlvs_at s) ≡ write_exit target m.announce (tlvs_at s))
frame_again-twice s target m b bt e room =
    let r = accepted s m b e in
    let t = taken-again s target b bt r.0 room in
    subst
    (λ (x : Message). (read_frame (write_exit target x.announce (tlvs_at s)) ≡ Ok x)
    × (tlvs_at (write_exit target x.announce (tlvs_at s)) ≡ tlvs_at s)
    × (write_exit (write_exit target x.announce (tlvs_at s)) x.announce (tlvs_at s) ≡ write_exit target x.announce (tlvs_at s)))
    (sym r.1) (
      ap read_frame t.1 ∙ read_again s target b bt r.0 room,
      ap tlvs_at t.1 ∙ tlvs-again s target b bt r.0 room,
      (frame_twice target (message_at s).announce (tlvs_at s) bt (wa s target b bt r.0 room).typed t.0).1,
    )
