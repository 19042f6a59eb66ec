-- The lines of paper 01, "On both sides of a line", that speak of the comparison and are marked (P).
-- Assumes nothing.
use Rattle.std.specs.Prelude.{◌≡◌}
use Rattle.compare.specs.declared.ComparisonDataset.{ComparisonDataset}
use Rattle.verdict.specs.declared.DatasetOrdering.TheVariants.{Better, Error1}
use Rattle.compare.specs.Dataset.{compare_of}

-- Sender equal to receiver, one grandmaster: steps 1 against 2 and 2 against 3 are Error1, 1 against 3 Better.
pub record OneToThree (a b c : ComparisonDataset) : Type 0 where
  pub one : a.gm_identity ≡ b.gm_identity
  pub too : b.gm_identity ≡ c.gm_identity
  pub steps-a : a.steps_removed ≡ 1
  pub steps-b : b.steps_removed ≡ 2
  pub steps-c : c.steps_removed ≡ 3
  pub sent-b : b.identity_of_receiver.clock_identity ≡ b.identity_of_senders
  pub sent-c : c.identity_of_receiver.clock_identity ≡ c.identity_of_senders

abbrev pub SenderReceives : Type 0
SenderReceives = (a b c : ComparisonDataset) → OneToThree a b c → (compare_of a b ≡ Error1) × (compare_of b c ≡ Error1) × (compare_of a c ≡ Better)

-- a: X, priority 1, steps 3; b: Y, priority 2; c: X, priority 3, steps 1. c beats a, a beats b, b beats c.
pub record Circular (a b c : ComparisonDataset) : Type 0 where
  pub x : a.gm_identity ≡ c.gm_identity
  pub y : a.gm_identity ≡ b.gm_identity → ⊥
  pub priority_a : a.gm_priority_1 ≡ 1
  pub priority_b : b.gm_priority_1 ≡ 2
  pub priority_c : c.gm_priority_1 ≡ 3
  pub steps-a : a.steps_removed ≡ 3
  pub steps-c : c.steps_removed ≡ 1

abbrev pub Circle : Type 0
Circle = (a b c : ComparisonDataset) → Circular a b c → (compare_of c a ≡ Better) × (compare_of a b ≡ Better) × (compare_of b c ≡ Better)
