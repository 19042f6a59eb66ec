-- The steps of the code, by their cases.
-- Assumes nothing.
use Rattle.std.specs.Prelude.{◌≡◌, refl, true, false, eqb, length, take, drop, get_or, set, Option, Some, None}
use mathlib.Core.List.{List, [], ◌∷◌, ◌++◌, append-nil, append_assoc}
use Prim.Native.Nat.{ℕ, suc, ◌+◌, ◌/◌, ◌%◌, ◌^◌, ◌≤◌, ◌<◌}
use Rattle.std.proofs.Math.Nat.{div-div-eq-div-mul, pow-succ'}
use Rattle.std.proofs.Common.{mul_comm, add-one, drop_of_length-le}
use Rattle.std.proofs.Math.Seq.{drop-cons, take-suc-set, take_all}
use Rattle.compare.specs.declared.InternalDefaultDS.{InternalDefaultDS}
use Rattle.choice.specs.declared.BestAnnounceMessage.{BestAnnounceMessage}
use Rattle.choice.specs.Choice.{keep, from, choose, present}
use Rattle.choice.specs.Candidate.{whole, stays_by, winner}
use Rattle.decision.specs.declared.RecommendedState.{RecommendedState}
use Rattle.decision.specs.State.{state_of}
use Rattle.states.specs.declared.PortAnswer.{PortAnswer}
use Rattle.states.specs.Ports.{keep_found, ebest_of, answers_from}

-- one step of the choice among the Erbests
module _ (s n : Option BestAnnounceMessage) where
  pub keep-alone : n ≡ None → s ≡ keep_found s n
  keep-alone e = rw e

  pub keep-first : (b : BestAnnounceMessage) → s ≡ None → n ≡ Some b → Some b ≡ keep_found s n
  keep-first b e f = rw (e, f)

  pub keep-held : (h b : BestAnnounceMessage) → s ≡ Some h → n ≡ Some b → stays_by whole h b ≡ true → Some h ≡ keep_found s n
  keep-held h b e f t = rw (e, f, t)

  pub keep-next : (h b : BestAnnounceMessage) → s ≡ Some h → n ≡ Some b → stays_by whole h b ≡ false → Some b ≡ keep_found s n
  keep-next h b e f t = rw (e, f, t)

-- all steps
unfoldable pub keep_all : Option BestAnnounceMessage → List (Option BestAnnounceMessage) → Option BestAnnounceMessage
keep_all held [] = held
keep_all held (o ∷ os) = keep_all (keep_found held o) os

steps-some : (h : BestAnnounceMessage) (os : List (Option BestAnnounceMessage)) → keep_all (Some h) os ≡ Some (from (stays_by whole) h (present os))
unfolding keep_all from
steps-some h [] = refl
steps-some h (None ∷ os) = steps-some h os
steps-some h (Some b ∷ os) = steps-some (keep (stays_by whole) h b) os

pub steps-ebest : (os : List (Option BestAnnounceMessage)) → keep_all None os ≡ ebest_of os
unfolding keep_all ebest_of winner choose
steps-ebest [] = refl
steps-ebest (None ∷ os) = steps-ebest os
steps-ebest (Some b ∷ os) = steps-some b os

-- the answers of all ports, one after the other
pub halved : (x bits i : ℕ) → bits ≡ x / 2 ^ i → bits / 2 ≡ x / 2 ^ (i + 1)
halved x bits i e = rw (e, add-one i, pow-succ' 2 i, mul_comm 2 (2 ^ i)) (div-div-eq-div-mul x (2 ^ i) 2)

module _ (own : InternalDefaultDS) (g : Option BestAnnounceMessage) (listening : ℕ) (xs : List (Option BestAnnounceMessage)) (out : List PortAnswer) where
  pub answered-next :
      (bits i : ℕ) (d : Option BestAnnounceMessage) (s : RecommendedState) → i < length xs → i < length out → bits ≡ listening / 2 ^ i
      → s ≡ state_of own g (get_or xs i d) (eqb (bits % 2) 1)
      → take (i + 1) (set out i (record { port_number = i + 1; state = s })) ++ answers_from own g listening (i + 1) (drop (i + 1) xs)
      ≡ take i out ++ answers_from own g listening i (drop i xs)
  unfolding answers_from
  answered-next bits i d s h k e f =
      rw (add-one i, take-suc-set out i (record { port_number = suc i; state = s }) k, append_assoc (take i out) (record { port_number = suc i; state = s } ∷ []) (answers_from own g listening (suc i) (drop (suc i) xs)), drop-cons xs i d h, f, e)

  pub answered-all : (i : ℕ) → length xs ≤ i → length out ≤ i → take i out ++ answers_from own g listening i (drop i xs) ≡ out
  unfolding answers_from
  answered-all i h k = rw (drop_of_length-le xs h, take_all i out k) (append-nil out)
