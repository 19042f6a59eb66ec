-- The steps of the code, by their cases.
-- Assumes nothing.
use Rattle.std.specs.Prelude.{◌≡◌, Bool, true, false, ◌≤◌, ◌<◌, Option, Some, None}
use Rattle.std.proofs.Math.Path.{refl}
use Rattle.std.proofs.Math.Bool.{cond}
use Rattle.std.proofs.Common.{arith}
use borrow.Author.Tests.{le-leb, lt-leb, eq-eqb, ne_eqb}
use Rattle.compare.specs.declared.ComparisonDataset.{ComparisonDataset}
use Rattle.compare.specs.declared.InternalDefaultDS.{InternalDefaultDS}
use Rattle.std.specs.declared.cmp.Ordering.{Ordering}
use Rattle.compare.specs.Dataset.{compare_of, as_ordering, is_by_topology}
use Rattle.choice.specs.declared.BestAnnounceMessage.{BestAnnounceMessage}
use Rattle.same.specs.Same.{same_port, same_message}
use Rattle.decision.specs.declared.RecommendedState.{RecommendedState}
use Rattle.decision.specs.declared.RecommendedState.TheVariants.{Stay, M3, P2, S1}
use Rattle.decision.specs.State.{set_of, same_best, compared_by, compare_d0, global_and_port, against_port, low_class, high_class, low, by_class, stays, state_of}

-- whole records
module _ (a b : BestAnnounceMessage) where
  pub other-port : same_port a.identity b.identity ≡ false → same_best a b ≡ false
  unfolding same_best
  other-port e = rw e

  pub other-age : same_port a.identity b.identity ≡ true → (a.age ≡ b.age → ⊥) → same_best a b ≡ false
  unfolding same_best
  other-age e n = rw (e, ne_eqb a.age b.age n)

  pub same_rest : same_port a.identity b.identity ≡ true → a.age ≡ b.age → same_best a b ≡ same_message a.message b.message
  unfolding same_best
  same_rest e f = rw (e, eq-eqb a.age b.age f)

  -- Ebest against the port's Erbest
  pub state-same : same_best a b ≡ true → global_and_port a b ≡ S1 a.message
  unfolding global_and_port
  state-same e = rw e

  pub state-near : same_best a b ≡ false → is_by_topology (compare_of (set_of a) (set_of b)) ≡ true → global_and_port a b ≡ P2 b.message
  unfolding global_and_port
  state-near e f = rw (e, f)

  pub state-far : same_best a b ≡ false → is_by_topology (compare_of (set_of a) (set_of b)) ≡ false → global_and_port a b ≡ M3 a.message
  unfolding global_and_port
  state-far e f = rw (e, f)

-- Ebest ranks above our own data: by whether the port has an Erbest
module _ (g : BestAnnounceMessage) (s : Option BestAnnounceMessage) where
  pub against_none : s ≡ None → M3 g.message ≡ against_port g s
  against_none e = rw e

  pub against_found : (p : BestAnnounceMessage) (r : RecommendedState) → s ≡ Some p → r ≡ global_and_port g p → r ≡ against_port g s
  against_found p r e f = rw e f

-- our own data against a best message that is there
pub compared : (d0 : ComparisonDataset) (s : Option BestAnnounceMessage) (b : BestAnnounceMessage) (o : Ordering) → s ≡ Some b → o ≡ as_ordering (compare_of d0 (set_of b)) → compared_by o b ≡ compare_d0 d0 s
compared d0 s b o e f = rw (e, f)

-- our clock class
pub low_below : (own : InternalDefaultDS) → own.clock_quality.clock_class < 1 → low own ≡ false
unfolding low
low_below own h = simp (lt-leb 1 own.clock_quality.clock_class h)

pub low-above : (own : InternalDefaultDS) → 127 < own.clock_quality.clock_class → low own ≡ false
unfolding low
low-above own h = simp (le-leb 1 own.clock_quality.clock_class (omega arith), lt-leb own.clock_quality.clock_class 127 h)

pub low-within : (own : InternalDefaultDS) → 1 ≤ own.clock_quality.clock_class → own.clock_quality.clock_class ≤ 127 → low own ≡ true
unfolding low
low-within own h k = simp (le-leb 1 own.clock_quality.clock_class h, le-leb own.clock_quality.clock_class 127 k)

module _ (own : InternalDefaultDS) (g p : Option BestAnnounceMessage) where
  pub class_low : low own ≡ true → by_class own g p ≡ low_class own p
  class_low e = rw e

  pub class-high : low own ≡ false → by_class own g p ≡ high_class own g p
  class-high e = rw e

-- one port: only a listening one without an Erbest stays
module _ (own : InternalDefaultDS) (g : Option BestAnnounceMessage) (s : Option BestAnnounceMessage) where
  pub state-stays : (listening : Bool) → listening ≡ true → s ≡ None → state_of own g s listening ≡ Stay
  unfolding state_of
  state-stays listening e f = rw (e, f)

  pub state-found : (listening : Bool) (b : BestAnnounceMessage) → s ≡ Some b → state_of own g s listening ≡ by_class own g s
  unfolding state_of
  state-found listening b e = rw e

  pub state_deaf : (listening : Bool) → listening ≡ false → state_of own g s listening ≡ by_class own g s
  unfolding state_of
  state_deaf listening e = go s
    where
      go : (o : Option BestAnnounceMessage) → cond (stays listening o) Stay (by_class own g o) ≡ by_class own g o
      go None = rw e
      go (Some b) = refl
