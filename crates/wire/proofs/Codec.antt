-- A codec: a layout, the numbers of its fields for a value, and what such numbers mean. The round trip is shown once, for every codec.
-- Assumes nothing.
use Rattle.std.specs.Prelude.{ℕ, ◌≤◌, ◌≡◌, List, length}
use Rattle.std.proofs.Common.{ap, ◌∙◌}
use Rattle.wire.specs.Be.{put}
use Rattle.wire.specs.Layout.{fields_at, bytes_of_all, Fit}
use Rattle.wire.proofs.LayoutLaws.{fields-put}

pub record Codec (A : Type 0) : Type 1 where
  pub widths : List ℕ
  pub values : A → List ℕ
  pub meaning : List ℕ → A
  -- the values that the fields can hold
  pub Valid : A → Type 0
  pub fit : (a : A) → Valid a → Fit widths (values a)
  pub back : (a : A) → Valid a → meaning (values a) ≡ a

-- what is read at a place, and the list with a value written there
abbrev pub read_as : {A : Type 0} → Codec A → List ℕ → ℕ → A
read_as k s at = k.meaning (fields_at k.widths s at)

abbrev pub write_as : {A : Type 0} → Codec A → List ℕ → ℕ → A → List ℕ
write_as k s at a = put s at (bytes_of_all k.widths (k.values a))

pub trip : {A : Type 0} (k : Codec A) (s : List ℕ) (at : ℕ) (a : A) → k.Valid a → at ≤ length s → read_as k (write_as k s at a) at ≡ a
trip k s at a v le = ap k.meaning (fields-put s at k.widths (k.values a) le (k.fit a v)) ∙ k.back a v
