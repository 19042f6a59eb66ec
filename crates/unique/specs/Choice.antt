-- The comparison, the choice and the state decision.
-- Assumes nothing.
use Rattle.std.specs.Prelude.{◌≡◌, List, Option}
use Rattle.compare.proofs.ComparisonDataset.from_announce_message.Reads as from-announce-message
use Rattle.compare.proofs.ComparisonDataset.from_own_data.Reads as from-own-data
use Rattle.compare.proofs.ComparisonDataset.compare.Reads as compare
use Rattle.choice.specs.declared.Candidate.{Candidate}
use Rattle.choice.specs.Candidate.{winner, itself}
use Rattle.find_best.proofs.best_of.Reads as best_of
use Rattle.decision.proofs.calculate_recommended_state.Reads as calculate-recommended-state
use Rattle.decision.proofs.RecommendedState.number.Reads as number
use Rattle.states.proofs.ebest.Reads as ebest
use Rattle.states.proofs.recommended_states.Reads as recommended-states
use Rattle.unique.specs.Once.{OneAnswer, alike}

pub announce-set : OneAnswer from-announce-message.Learnt
announce-set κs a z z' e e' p q = alike p q

pub own-set : OneAnswer from-own-data.Learnt
own-set κs a z z' e e' p q = alike p q

pub verdict : OneAnswer compare.Learnt
verdict κs a z z' e e' p q = alike p q

-- of find_best, which lends a list of records and has no such reading, by the words of its contract
pub best-found : (cands : List Candidate) (z z' : Option Candidate) → z ≡ winner itself cands → z' ≡ winner itself cands → z ≡ z'
best-found cands z z' p q = alike p q

pub best_of_list : OneAnswer best_of.Learnt
best_of_list κs a z z' e e' p q = alike p q

pub ebest-found : OneAnswer ebest.Learnt
ebest-found κs a z z' e e' p q = alike p q

pub state_calculated : OneAnswer calculate-recommended-state.Learnt
state_calculated κs a z z' e e' p q = alike p q

pub state-number : OneAnswer number.Learnt
state-number κs a z z' e e' p q = alike p q

pub states_recommended : OneAnswer recommended-states.Learnt
states_recommended κs a z z' e e' p q = alike p q
