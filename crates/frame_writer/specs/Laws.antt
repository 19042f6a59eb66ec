-- What a frame that fits the wire has.
-- Assumes nothing.
use Rattle.std.specs.Prelude.{ℕ, ◌+◌, ◌≤◌, Bool, List, length}
use Rattle.std.proofs.Math.Path.{◌≡◌, refl}
use Rattle.std.proofs.Math.Bool.{true, false, cond}
use Rattle.std.proofs.Common.{arith}
use Rattle.header.specs.Wire as header
use Rattle.header.proofs.Laws.{fitting}
use Rattle.announce.specs.declared.AnnounceMessage.{AnnounceMessage}
use Rattle.announce.specs.Wire as announce
use Rattle.tlv.specs.Tlv.{whole_entries}
use Rattle.frame_writer.specs.Frame.{fits_of}

module _ (a : AnnounceMessage) (tlvs : List ℕ) where
  pub unfit_header : header.fits_of a.header (length tlvs + 30) ≡ false → false ≡ fits_of a tlvs
  unfolding fits_of
  unfit_header e = rw e

  pub unfit_content : header.fits_of a.header (length tlvs + 30) ≡ true → announce.fits_of a ≡ false → false ≡ fits_of a tlvs
  unfolding fits_of
  unfit_content e f = rw (e, f)

  pub fit-by-tlvs : header.fits_of a.header (length tlvs + 30) ≡ true → announce.fits_of a ≡ true → whole_entries tlvs ≡ fits_of a tlvs
  unfolding fits_of
  fit-by-tlvs e f = rw (e, f)

  -- what fits
  pub record Fits : Type 0 where
    pub head : header.fits_of a.header (length tlvs + 30) ≡ true
    pub content : announce.fits_of a ≡ true
    pub entries : whole_entries tlvs ≡ true

  pub fits-back : fits_of a tlvs ≡ true → Fits
  unfolding fits_of
  fits-back e = by (header.fits_of a.header (length tlvs + 30)) (announce.fits_of a) refl refl e
    where
      by : (x y : Bool) → header.fits_of a.header (length tlvs + 30) ≡ x → announce.fits_of a ≡ y → cond x (cond y (whole_entries tlvs) false) false ≡ true → Fits
      by true true ex ey e = record { head = ex; content = ey; entries = e }
      by true false ex ey e = absurd (let z : ◌≡◌ {A = ℕ} 0 1 = cc in omega arith)
      by false y ex ey e = absurd (let z : ◌≡◌ {A = ℕ} 0 1 = cc in omega arith)

  -- its length fits the length field
  pub fits-size : fits_of a tlvs ≡ true → length tlvs + 64 ≤ 65535
  fits-size e =
      let f = fitting _ _ _ _ (fits-back e).head in
      omega (arith, f.content-fits)
