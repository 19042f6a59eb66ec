-- The crate's order of candidates, and the winners: of one list, of each port (Erbest), among those (Ebest), and once over all.
-- Assumes nothing.
use Rattle.std.specs.Prelude.{Bool, List, [], ◌∷◌, map, ℕ, Option, Some, None}
use Rattle.compare.specs.declared.ComparisonDataset.{ComparisonDataset}
use Rattle.std.specs.declared.cmp.Ordering.{Ordering}
use Rattle.order.specs.Order.{cmp, then_by, is_greater}
use Rattle.compare.specs.Dataset.{compare_of, as_ordering}
use Rattle.choice.specs.declared.BestAnnounceMessage.{BestAnnounceMessage}
use Rattle.choice.specs.declared.Candidate.{Candidate}
use Rattle.choice.specs.Choice.{keep, choose, joined, present}

-- the candidate of a whole message
abbrev pub candidate_of : BestAnnounceMessage → ℕ → Candidate
candidate_of b place =
    record {
      gm_priority_1 = b.message.grandmaster_priority_1;
      clock_class = b.message.grandmaster_clock_quality.clock_class;
      clock_accuracy = b.message.grandmaster_clock_quality.clock_accuracy;
      gm_priority_2 = b.message.grandmaster_priority_2;
      offset_scaled_log_variance = b.message.grandmaster_clock_quality.offset_scaled_log_variance;
      steps_removed = b.message.steps_removed;
      receiver_port = b.identity.port_number;
      gm_identity = b.message.grandmaster_identity;
      sender = b.message.header.source_port_identity.clock_identity;
      receiver_clock = b.identity.clock_identity;
      age = b.age;
      place = place;
    }

-- what the comparison reads of a candidate
abbrev pub dataset_of : Candidate → ComparisonDataset
dataset_of c =
    record {
      gm_priority_1 = c.gm_priority_1;
      gm_identity = c.gm_identity;
      gm_clock_quality =
          record {
            clock_class = c.clock_class;
            clock_accuracy = c.clock_accuracy;
            offset_scaled_log_variance = c.offset_scaled_log_variance;
          };
      gm_priority_2 = c.gm_priority_2;
      steps_removed = c.steps_removed;
      identity_of_senders = c.sender;
      identity_of_receiver = record { clock_identity = c.receiver_clock; port_number = c.receiver_port };
    }

-- the verdict, then the smaller age: the greater is the better
unfoldable pub ranking : Candidate → Candidate → Ordering
ranking c d = then_by (as_ordering (compare_of (dataset_of c) (dataset_of d))) (cmp d.age c.age)

-- the one held stays only if it ranks strictly above the next, or ties with it and has the strictly smaller age
unfoldable pub stays : Candidate → Candidate → Bool
stays held next = is_greater (ranking held next)

-- Over records of any kind that show a candidate: candidates themselves, and whole messages.
abbrev pub itself : Candidate → Candidate
itself c = c

abbrev pub whole : BestAnnounceMessage → Candidate
whole b = candidate_of b 0

module _ {A : Type 0} (shown : A → Candidate) where
  abbrev pub stays_by : A → A → Bool
  stays_by held next = stays (shown held) (shown next)

  unfoldable pub winner : List A → Option A
  winner xs = choose stays_by xs

  -- Erbest of each port, by the candidates of the ports, port 1 first
  unfoldable pub erbests : List (List A) → List (Option A)
  erbests ports = map winner ports

  -- Ebest, among the Erbests in the order of the ports
  unfoldable pub ebest : List (List A) → Option A
  ebest ports = winner (present (erbests ports))

  -- the single choice over the candidates of all ports, port 1 first
  unfoldable pub single : List (List A) → Option A
  single ports = winner (joined ports)

-- one step, from the one held, if there is one
abbrev pub keep_best : Option Candidate → Candidate → Option Candidate
keep_best None next = Some next
keep_best (Some held) next = Some (keep stays held next)

-- all steps
abbrev pub keep_all : Option Candidate → List Candidate → Option Candidate
keep_all held [] = held
keep_all held (x ∷ xs) = keep_all (keep_best held x) xs
