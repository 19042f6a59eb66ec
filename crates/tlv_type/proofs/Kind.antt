-- The kinds of TLVs, IEEE 1588-2019, table 52, as far as the crate names them, and which of them are passed on downstream.
-- Assumes nothing.
use Rattle.std.specs.Prelude.{ℕ, List, [], ◌∷◌, ◌≡◌, refl, Bool, true, false, cond, eqb}
use Rattle.std.proofs.Common.{sym, ap, eqb-true}
use Rattle.tlv_type.specs.declared.TlvType.{TlvType}
use Rattle.tlv_type.specs.Kind.{number_of, named, one_in, kind_of, passed_on}

-- ---- laws

-- a number's kind has that number
number_in : (ks : List TlvType) (n : ℕ) → number_of (one_in ks n) ≡ n
number_in [] n = refl
number_in (k ∷ ks) n = by (eqb n (number_of k)) refl (number_in ks n)
  where
    by : (b : Bool) → eqb n (number_of k) ≡ b → number_of (one_in ks n) ≡ n → number_of (cond b k (one_in ks n)) ≡ n
    by true e rest = sym (eqb-true n (number_of k) e)
    by false e rest = rest

pub number_kind : (n : ℕ) → number_of (kind_of n) ≡ n
unfolding kind_of
number_kind n = number_in named n

-- so an entry is passed on by its number
pub passed-by-number : (n : ℕ) → passed_on (number_of (kind_of n)) ≡ passed_on n
passed-by-number n = ap passed_on (number_kind n)
