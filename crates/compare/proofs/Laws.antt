-- The comparison by its cases, for the code and for the laws.
-- Assumes nothing.
use Rattle.std.specs.Prelude.{◌≡◌, ℕ, ◌+◌, ◌<◌, ◌≤◌}
use Rattle.std.specs.Ordering.{ordering_then}
use Rattle.std.specs.declared.cmp.Ordering.{Ordering}
use Rattle.std.proofs.Common.{◌∙◌, ap₂, arith}
use Rattle.std.proofs.Math.Decide.{dec_lt}
use borrow.Author.Tests.{lt-ltb, le-ltb, eq-eqb, ne_eqb}
use Rattle.verdict.specs.declared.DatasetOrdering.TheVariants.{Better, Worse}
use Rattle.compare.specs.declared.ComparisonDataset.{ComparisonDataset}
use Rattle.order.specs.Order.{cmp, then_by, lex}
use Rattle.compare.specs.Dataset.{quality_row, by_topology, nearer_by, farther_by, topology_row, near, figure34, figure35, compare_of}
use Rattle.order.specs.Rows.{Two, lt, eq, gt, two, cmp_less, cmp_greater, cmp_equal, then-library, then_by_assoc, then_by_equal}

module _ (a b : ComparisonDataset) where
  pub same-grandmaster : a.gm_identity ≡ b.gm_identity → compare_of a b ≡ figure35 a b
  unfolding compare_of
  same-grandmaster e = simp (eq-eqb _ _ e)

  pub other-grandmaster : (a.gm_identity ≡ b.gm_identity → ⊥) → compare_of a b ≡ figure34 a b
  unfolding compare_of
  other-grandmaster n = simp (ne_eqb _ _ n)

  pub far-above : b.steps_removed + 1 < a.steps_removed → figure35 a b ≡ Worse
  unfolding figure35
  far-above h = simp (lt-ltb _ _ h)

  pub far-below : a.steps_removed + 1 < b.steps_removed → figure35 a b ≡ Better
  unfolding figure35
  far-below h = simp (le-ltb (b.steps_removed + 1) a.steps_removed (omega arith), lt-ltb _ _ h)

  within : a.steps_removed ≤ b.steps_removed + 1 → b.steps_removed ≤ a.steps_removed + 1 → figure35 a b ≡ near (cmp a.steps_removed b.steps_removed) a b
  unfolding figure35
  within h k = simp (le-ltb _ _ h, le-ltb _ _ k)

  pub above : b.steps_removed < a.steps_removed → a.steps_removed ≤ b.steps_removed + 1 → figure35 a b ≡ farther_by (cmp a.identity_of_receiver.clock_identity a.identity_of_senders)
  above h k = within k (omega arith) ∙ simp (cmp_greater _ _ h)

  pub below : a.steps_removed < b.steps_removed → b.steps_removed ≤ a.steps_removed + 1 → figure35 a b ≡ nearer_by (cmp b.identity_of_receiver.clock_identity b.identity_of_senders)
  below h k = within (omega arith) k ∙ simp (cmp_less _ _ h)

  pub level : a.steps_removed ≤ b.steps_removed → b.steps_removed ≤ a.steps_removed → figure35 a b ≡ by_topology (lex (topology_row a) (topology_row b))
  level h k = within (omega arith) (omega arith) ∙ simp (cmp_equal _ _ h k)

-- what the library's tuples say of a number and the next, in the comparison's words
pub then-words : {o p o' p' : Ordering} → o ≡ o' → p ≡ p' → ordering_then o p ≡ then_by o' p'
then-words {o = o} {p = p} e f = then-library o p ∙ ap₂ then_by e f

-- the numbers that decide between different grandmasters, one after the other
pub quality-row :
    (a b : ComparisonDataset)
    → then_by (then_by (then_by (then_by (then_by (cmp a.gm_priority_1 b.gm_priority_1) (cmp a.gm_clock_quality.clock_class b.gm_clock_quality.clock_class))
    (cmp a.gm_clock_quality.clock_accuracy b.gm_clock_quality.clock_accuracy)) (cmp a.gm_clock_quality.offset_scaled_log_variance b.gm_clock_quality.offset_scaled_log_variance))
    (cmp a.gm_priority_2 b.gm_priority_2)) (cmp a.gm_identity b.gm_identity)
    ≡ lex (quality_row a) (quality_row b)
unfolding lex
quality-row a b = simp (then_by_assoc, then_by_equal)

-- two counts of steps, as figure 35 tells them apart
pub data Gap (m n : ℕ) : Type 0 where
  two-more : n + 1 < m → Gap m n
  one_more : n < m → m ≤ n + 1 → Gap m n
  as_many : m ≤ n → n ≤ m → Gap m n
  one_less : m < n → n ≤ m + 1 → Gap m n
  two_less : m + 1 < n → Gap m n

pub gap : (m n : ℕ) → Gap m n
gap m n = go (dec_lt (n + 1) m) (dec_lt (m + 1) n) (two m n)
  where
    go : Dec (n + 1 < m) → Dec (m + 1 < n) → Two m n → Gap m n
    go (yes h) e t = two-more h
    go (no h) (yes k) t = two_less k
    go (no h) (no k) (lt l) = one_less l (omega arith)
    go (no h) (no k) (eq l r) = as_many l r
    go (no h) (no k) (gt l) = one_more l (omega arith)
