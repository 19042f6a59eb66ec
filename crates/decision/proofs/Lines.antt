-- The line of paper 01, "On both sides of a line", that speaks of our clock class and is marked (P).
-- Assumes nothing.
use Rattle.std.specs.Prelude.{◌≡◌, Bool, true, false, Option}
use Rattle.std.proofs.Common.{arith}
use Rattle.compare.specs.declared.InternalDefaultDS.{InternalDefaultDS}
use Rattle.choice.specs.declared.BestAnnounceMessage.{BestAnnounceMessage}
use Rattle.decision.specs.State.{high_class, low, stays, state_of}
use Rattle.decision.proofs.Steps.{low_below, low-above, low-within}

-- Erbest alone is read: the state is the same whatever Ebest is
abbrev pub ReadsErbest : InternalDefaultDS → Type 0
ReadsErbest own = (g h p : Option BestAnnounceMessage) (listening : Bool) → state_of own g p listening ≡ state_of own h p listening

-- Ebest is read first, unless the port stays
abbrev pub ReadsEbest : InternalDefaultDS → Type 0
ReadsEbest own = (g p : Option BestAnnounceMessage) (listening : Bool) → stays listening p ≡ false → state_of own g p listening ≡ high_class own g p

low_reads : (own : InternalDefaultDS) → low own ≡ true → ReadsErbest own
unfolding state_of
low_reads own e g h p listening = rw e

high-reads : (own : InternalDefaultDS) → low own ≡ false → ReadsEbest own
unfolding state_of
high-reads own e g p listening n = rw (n, e)

-- Class 1 and 127 read only Erbest; 0 and 128 read Ebest.
abbrev pub Classes : Type 0
Classes =
    (own : InternalDefaultDS)
    → (own.clock_quality.clock_class ≡ 1 → ReadsErbest own)
    × (own.clock_quality.clock_class ≡ 127 → ReadsErbest own)
    × (own.clock_quality.clock_class ≡ 0 → ReadsEbest own)
    × (own.clock_quality.clock_class ≡ 128 → ReadsEbest own)

pub classes : Classes
classes own = (
  λ e. low_reads own (low-within own (omega (arith, e)) (omega (arith, e))),
  λ e. low_reads own (low-within own (omega (arith, e)) (omega (arith, e))),
  λ e. high-reads own (low_below own (omega (arith, e))),
  λ e. high-reads own (low-above own (omega (arith, e))),
)
