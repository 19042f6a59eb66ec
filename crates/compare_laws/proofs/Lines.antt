-- The lines of paper 01, "On both sides of a line", that speak of the comparison and are marked (P).
-- Assumes nothing.
use Rattle.std.specs.Prelude.{◌≡◌, ◌+◌, ◌<◌}
use Rattle.std.proofs.Common.{sym, ap, ◌∙◌, arith}
use Rattle.compare.specs.declared.ComparisonDataset.{ComparisonDataset}
use Rattle.verdict.specs.declared.DatasetOrdering.TheVariants.{Better, Error1}
use Rattle.std.specs.declared.cmp.Ordering.TheVariants.{Less}
use Rattle.compare.specs.Dataset.{by_quality, nearer_by, figure34, compare_of}
use Rattle.order.specs.Rows.{cmp_equal, decided, lower}
use Rattle.compare.proofs.Laws.{same-grandmaster, other-grandmaster, far-below, below}
use Rattle.compare_laws.specs.Lines.{SenderReceives, Circle}

-- one step farther, sent by the clock that received it
next_error : (a b : ComparisonDataset) → a.gm_identity ≡ b.gm_identity → b.steps_removed ≡ a.steps_removed + 1 → b.identity_of_receiver.clock_identity ≡ b.identity_of_senders → compare_of a b ≡ Error1
next_error a b g s e = same-grandmaster a b g ∙ below a b (omega arith) (omega arith) ∙ ap nearer_by (cmp_equal b.identity_of_receiver.clock_identity b.identity_of_senders (omega (arith, e)) (omega (arith, e)))

pub sender_receives : SenderReceives
sender_receives a b c s = (
  next_error a b s.one (omega (arith, s.steps-a, s.steps-b)) s.sent-b,
  next_error b c s.too (omega (arith, s.steps-b, s.steps-c)) s.sent-c,
  same-grandmaster a c (s.one ∙ s.too) ∙ far-below a c (omega (arith, s.steps-a, s.steps-c)),
)

-- another grandmaster with a lower priority 1
ahead : (a b : ComparisonDataset) → (a.gm_identity ≡ b.gm_identity → ⊥) → a.gm_priority_1 < b.gm_priority_1 → compare_of a b ≡ Better
unfolding figure34
ahead a b n h = other-grandmaster a b n ∙ sym (decided by_quality Less (lower h))

pub circle : Circle
circle a b c s = (
  same-grandmaster c a (sym s.x) ∙ far-below c a (omega (arith, s.steps-a, s.steps-c)),
  ahead a b s.y (omega (arith, s.priority_a, s.priority_b)),
  ahead b c (λ e. s.y (s.x ∙ sym e)) (omega (arith, s.priority_b, s.priority_c)),
)
