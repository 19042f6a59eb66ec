-- What demand 3 asks of candidates: none was sent by the clock that received it, as in a sound book, and those of one grandmaster
-- agree on priority 1, class, accuracy, variance and priority 2.
-- Assumes nothing.
use Rattle.std.specs.Prelude.{◌≡◌}
use mathlib.Core.List.{List, Memᴰ}
use Rattle.compare.specs.declared.ComparisonDataset.{ComparisonDataset}
use Rattle.choice.specs.declared.Candidate.{Candidate}
use Rattle.choice.specs.Candidate.{dataset_of}

pub record SameData (a b : ComparisonDataset) : Type 0 where
  pub priority1 : a.gm_priority_1 ≡ b.gm_priority_1
  pub class : a.gm_clock_quality.clock_class ≡ b.gm_clock_quality.clock_class
  pub accuracy : a.gm_clock_quality.clock_accuracy ≡ b.gm_clock_quality.clock_accuracy
  pub variance : a.gm_clock_quality.offset_scaled_log_variance ≡ b.gm_clock_quality.offset_scaled_log_variance
  pub priority2 : a.gm_priority_2 ≡ b.gm_priority_2

-- not sent by the clock that received it
abbrev pub Foreign : ComparisonDataset → Type 0
Foreign a = a.identity_of_receiver.clock_identity ≡ a.identity_of_senders → ⊥

-- of a list of records that show candidates
pub record Agreeing {A : Type 0} (shown : A → Candidate) (xs : List A) : Type 0 where
  pub foreign : (x : A) → Memᴰ x xs → Foreign (dataset_of (shown x))
  pub agree :
      (x y : A) → Memᴰ x xs → Memᴰ y xs → (shown x).gm_identity ≡ (shown y).gm_identity
      → SameData (dataset_of (shown x)) (dataset_of (shown y))
