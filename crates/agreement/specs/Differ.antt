-- Without the agreement, choosing by ports and choosing at once can differ: paper 01's a, b, c.
-- Assumes nothing.
use Rattle.std.specs.Prelude.{◌≡◌, refl, true, false, List, [], ◌∷◌, ℕ, Some}
use Rattle.std.proofs.Common.{sym, ap, ◌∙◌, arith}
use Rattle.verdict.specs.declared.DatasetOrdering.{DatasetOrdering}
use Rattle.verdict.specs.declared.DatasetOrdering.TheVariants.{Better}
use Rattle.order.specs.Order.{cmp, then_by, is_greater}
use Rattle.compare.specs.Dataset.{as_ordering, compare_of}
use Rattle.compare_laws.specs.Mirror.{mirror}
use Rattle.compare_laws.proofs.Mirror.{mirror_law}
use Rattle.compare_laws.specs.Lines.{Circular}
use Rattle.compare_laws.proofs.Lines.{circle}
use Rattle.choice.specs.declared.Candidate.{Candidate}
use Rattle.choice.specs.Choice.{from, choose}
use Rattle.choice.specs.Candidate.{dataset_of, ranking, stays, itself, winner, erbests, ebest, single}

-- the one held ranks above the next, or below it
stays_better : (c d : Candidate) → compare_of (dataset_of c) (dataset_of d) ≡ Better → stays c d ≡ true
unfolding stays ranking
stays_better c d e = ap (λ (v : DatasetOrdering). is_greater (then_by (as_ordering v) (cmp d.age c.age))) e

stays_worse : (c d : Candidate) → compare_of (dataset_of d) (dataset_of c) ≡ Better → stays c d ≡ false
unfolding stays ranking
stays_worse c d e = ap (λ (v : DatasetOrdering). is_greater (then_by (as_ordering v) (cmp d.age c.age))) (sym (mirror_law (dataset_of d) (dataset_of c)) ∙ ap mirror e)

-- port 1 offers a; port 2 offers c and then b
abbrev pub two_ports : Candidate → Candidate → Candidate → List (List Candidate)
two_ports a b c = (a ∷ []) ∷ (c ∷ b ∷ []) ∷ []

module _ (a b c : Candidate) (s : Circular (dataset_of a) (dataset_of b) (dataset_of c)) where
  pub by-ports-a : ebest itself (two_ports a b c) ≡ Some a
  unfolding ebest erbests winner choose from
  by-ports-a = rw (stays_worse c b (circle _ _ _ s).2, stays_better a b (circle _ _ _ s).1)

  pub at-once-b : single itself (two_ports a b c) ≡ Some b
  unfolding single winner choose from
  at-once-b = rw (stays_worse a c (circle _ _ _ s).0, stays_worse c b (circle _ _ _ s).2)

  pub not_the_same : a ≡ b → ⊥
  not_the_same e = s.y (ap (λ (x : Candidate). x.gm_identity) e)

-- there are such candidates: clock 5 sent them to the ports of clock 10
abbrev candidate : ℕ → ℕ → ℕ → ℕ → Candidate
candidate grandmaster priority steps port =
    record {
      gm_priority_1 = priority;
      clock_class = 6;
      clock_accuracy = 32;
      gm_priority_2 = 128;
      offset_scaled_log_variance = 20061;
      steps_removed = steps;
      receiver_port = port;
      gm_identity = grandmaster;
      sender = 5;
      receiver_clock = 10;
      age = 0;
      place = 0;
    }

pub there-are : Circular (dataset_of (candidate 7 1 3 1)) (dataset_of (candidate 8 2 1 2)) (dataset_of (candidate 7 3 1 2))
there-are = record { x = refl; y = λ e. absurd (omega (arith, e)); priority_a = refl; priority_b = refl; priority_c = refl; steps-a = refl; steps-c = refl }
