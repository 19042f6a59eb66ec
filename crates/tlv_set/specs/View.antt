-- One entry of a list that is checked first, as the view shows it, and its two ways.
-- Assumes nothing.
use Rattle.std.specs.Prelude.{ℕ, ◌≡◌, List, Result, Err}
use Rattle.std.proofs.Common.{sym, ◌∙◌, arith}
use Rattle.wire.specs.Refusal.{on_zero, on-done, on-refused}
use Rattle.tlv.specs.declared.TlvRead.{TlvRead}
use Rattle.refused.specs.declared.Refusal.{Refusal}
use Rattle.refused.specs.Refusal.{number_of, refused}
use Rattle.refused.proofs.Laws.{number-positive, refused-number}
use Rattle.tlv.specs.Tlv.{read_at, check_list}

unfoldable pub list_read : List ℕ → ℕ → Result TlvRead Refusal
list_read s at = on_zero (check_list s) (read_at s at) refused

module _ (s : List ℕ) (at : ℕ) where
  pub list-refused : (e : Refusal) → check_list s ≡ number_of e → Err e ≡ list_read s at
  unfolding list_read
  list-refused e h = refused-number e ∙ rw h (sym (on-refused (number_of e) (read_at s at) refused (λ z. omega (arith, number-positive e))))

  pub list-taken : check_list s ≡ 0 → read_at s at ≡ list_read s at
  unfolding list_read
  list-taken e = sym (on-done (check_list s) (read_at s at) refused e)
