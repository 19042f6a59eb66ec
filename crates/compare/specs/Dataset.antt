-- The data set comparison: IEEE 1588-2019, 9.3.4, figures 34 and 35, as paper 01 and the crate fix it.
-- Assumes nothing.
use Rattle.std.specs.Prelude.{cond, List, [], ◌∷◌, ℕ, ◌+◌, ltb, eqb}
use Rattle.header.specs.declared.PortIdentity.{PortIdentity}
use Rattle.announce.specs.declared.AnnounceMessage.{AnnounceMessage}
use Rattle.std.specs.declared.cmp.Ordering.{Ordering}
use Rattle.std.specs.declared.cmp.Ordering.TheVariants.{Less, Equal, Greater}
use Rattle.verdict.specs.declared.DatasetOrdering.{DatasetOrdering}
use Rattle.verdict.specs.declared.DatasetOrdering.TheVariants.{Better, BetterByTopology, Error1, Error2, WorseByTopology, Worse}
use Rattle.compare.specs.declared.ComparisonDataset.{ComparisonDataset}
use Rattle.compare.specs.declared.InternalDefaultDS.{InternalDefaultDS}
use Rattle.order.specs.Order.{cmp, lex}
pub use Rattle.verdict.specs.Verdict.{as_ordering, ranks_above, is_by_topology}

-- the set of an announce message, with the port that received it
abbrev pub of_announce : AnnounceMessage → PortIdentity → ComparisonDataset
of_announce m receiver =
    record {
      gm_priority_1 = m.grandmaster_priority_1;
      gm_identity = m.grandmaster_identity;
      gm_clock_quality = m.grandmaster_clock_quality;
      gm_priority_2 = m.grandmaster_priority_2;
      steps_removed = m.steps_removed;
      identity_of_senders = m.header.source_port_identity.clock_identity;
      identity_of_receiver = receiver;
    }

-- the set of our own data: no steps away, our own sender and receiver, port 0
abbrev pub of_own : InternalDefaultDS → ComparisonDataset
of_own own =
    record {
      gm_priority_1 = own.priority_1;
      gm_identity = own.clock_identity;
      gm_clock_quality = own.clock_quality;
      gm_priority_2 = own.priority_2;
      steps_removed = 0;
      identity_of_senders = own.clock_identity;
      identity_of_receiver = record { clock_identity = own.clock_identity; port_number = 0 };
    }

-- different grandmasters: lower is better (Equal does not come, the last number differs)
abbrev pub by_quality : Ordering → DatasetOrdering
by_quality Less = Better
by_quality Equal = Error2
by_quality Greater = Worse

-- as many steps: lower is better
abbrev pub by_topology : Ordering → DatasetOrdering
by_topology Less = BetterByTopology
by_topology Equal = Error2
by_topology Greater = WorseByTopology

-- the other is one step farther: by how its receiver stands to its sender
abbrev pub nearer_by : Ordering → DatasetOrdering
nearer_by Less = Better
nearer_by Equal = Error1
nearer_by Greater = BetterByTopology

-- this one is one step farther: by how its receiver stands to its sender
abbrev pub farther_by : Ordering → DatasetOrdering
farther_by Less = Worse
farther_by Equal = Error1
farther_by Greater = WorseByTopology

-- what decides between different grandmasters
abbrev pub quality_row : ComparisonDataset → List ℕ
quality_row a =
    a.gm_priority_1 ∷ a.gm_clock_quality.clock_class ∷ a.gm_clock_quality.clock_accuracy
    ∷ a.gm_clock_quality.offset_scaled_log_variance ∷ a.gm_priority_2 ∷ a.gm_identity ∷ []

-- what decides between messages as many steps from one grandmaster
abbrev pub topology_row : ComparisonDataset → List ℕ
topology_row a = a.identity_of_senders ∷ a.identity_of_receiver.port_number ∷ []

-- Figure 34: different grandmasters
unfoldable pub figure34 : ComparisonDataset → ComparisonDataset → DatasetOrdering
figure34 a b = by_quality (lex (quality_row a) (quality_row b))

-- Figure 35, at most one step apart: by how the steps stand
abbrev pub near : Ordering → ComparisonDataset → ComparisonDataset → DatasetOrdering
near Less a b = nearer_by (cmp b.identity_of_receiver.clock_identity b.identity_of_senders)
near Equal a b = by_topology (lex (topology_row a) (topology_row b))
near Greater a b = farther_by (cmp a.identity_of_receiver.clock_identity a.identity_of_senders)

-- Figure 35: one grandmaster
unfoldable pub figure35 : ComparisonDataset → ComparisonDataset → DatasetOrdering
figure35 a b =
    cond (ltb (b.steps_removed + 1) a.steps_removed) Worse
    (cond (ltb (a.steps_removed + 1) b.steps_removed) Better
    (near (cmp a.steps_removed b.steps_removed) a b))

-- the verdict on the left side
unfoldable pub compare_of : ComparisonDataset → ComparisonDataset → DatasetOrdering
compare_of a b = cond (eqb a.gm_identity b.gm_identity) (figure35 a b) (figure34 a b)
