-- The state decision: what each port is to do, after bmca.rs and figure 33 of IEEE 1588-2019.
-- Assumes nothing.
use Rattle.std.specs.Prelude.{Bool, false, cond, ◌&&◌, leb, eqb, Option, Some, None}
use Rattle.compare.specs.declared.ComparisonDataset.{ComparisonDataset}
use Rattle.compare.specs.declared.InternalDefaultDS.{InternalDefaultDS}
use Rattle.std.specs.declared.cmp.Ordering.{Ordering}
use Rattle.std.specs.declared.cmp.Ordering.TheVariants.{Less, Equal, Greater}
use Rattle.compare.specs.Dataset.{of_announce, of_own, compare_of, as_ordering, is_by_topology}
use Rattle.choice.specs.declared.BestAnnounceMessage.{BestAnnounceMessage}
use Rattle.same.specs.Same.{same_port, same_message}
use Rattle.decision.specs.declared.MessageComparison.{MessageComparison}
use Rattle.decision.specs.declared.MessageComparison.TheVariants.{Better, Same, Worse}
use Rattle.decision.specs.declared.RecommendedState.{RecommendedState}
use Rattle.decision.specs.declared.RecommendedState.TheVariants.{Stay, M1, M2, M3, P1, P2, S1}

-- the comparison set of a best message
abbrev pub set_of : BestAnnounceMessage → ComparisonDataset
set_of b = of_announce b.message b.identity

-- the whole records are equal: receiver, age, and message with its header
unfoldable pub same_best : BestAnnounceMessage → BestAnnounceMessage → Bool
same_best a b = same_port a.identity b.identity && (eqb a.age b.age && same_message a.message b.message)

-- our own data against the best message
abbrev pub compared_by : Ordering → BestAnnounceMessage → MessageComparison
compared_by Less b = Worse b
compared_by Equal b = Same
compared_by Greater b = Better

abbrev pub compare_d0 : ComparisonDataset → Option BestAnnounceMessage → MessageComparison
compare_d0 d0 None = Better
compare_d0 d0 (Some b) = compared_by (as_ordering (compare_of d0 (set_of b))) b

-- Ebest ranks above our own data, and the port has an Erbest
unfoldable pub global_and_port : BestAnnounceMessage → BestAnnounceMessage → RecommendedState
global_and_port g p =
    cond (same_best g p) (S1 g.message)
    (cond (is_by_topology (compare_of (set_of g) (set_of p))) (P2 p.message) (M3 g.message))

-- clock class 1 to 127: Erbest alone
abbrev pub low_by : InternalDefaultDS → MessageComparison → RecommendedState
low_by own Better = M1 own
low_by own Same = M1 own
low_by own (Worse p) = P1 p.message

abbrev pub low_class : InternalDefaultDS → Option BestAnnounceMessage → RecommendedState
low_class own p = low_by own (compare_d0 (of_own own) p)

-- any other class: Ebest first
abbrev pub against_port : BestAnnounceMessage → Option BestAnnounceMessage → RecommendedState
against_port g None = M3 g.message
against_port g (Some p) = global_and_port g p

abbrev pub high_by : InternalDefaultDS → MessageComparison → Option BestAnnounceMessage → RecommendedState
high_by own Better p = M2 own
high_by own Same p = M2 own
high_by own (Worse g) p = against_port g p

abbrev pub high_class : InternalDefaultDS → Option BestAnnounceMessage → Option BestAnnounceMessage → RecommendedState
high_class own g p = high_by own (compare_d0 (of_own own) g) p

unfoldable pub low : InternalDefaultDS → Bool
low own = leb 1 own.clock_quality.clock_class && leb own.clock_quality.clock_class 127

abbrev pub by_class : InternalDefaultDS → Option BestAnnounceMessage → Option BestAnnounceMessage → RecommendedState
by_class own g p = cond (low own) (low_class own p) (high_class own g p)

-- one port: a listening one without an Erbest stays as it is, whatever the class
abbrev pub stays : Bool → Option BestAnnounceMessage → Bool
stays listening None = listening
stays listening (Some p) = false

unfoldable pub state_of : InternalDefaultDS → Option BestAnnounceMessage → Option BestAnnounceMessage → Bool → RecommendedState
state_of own g p listening = cond (stays listening p) Stay (by_class own g p)
