-- Demand 3 of the calls on a sound store: the single choice over the list that a caller lays answers the candidate of Ebest of the
-- decision by ports, given that candidates of one grandmaster agree on priority 1, class, accuracy, variance and priority 2.
-- Assumes nothing.
use Prim.Native.Nat.{ℕ, suc, ◌-◌, ◌≤◌}
use Rattle.std.specs.Prelude.{◌≡◌, refl, true, slice_get, option_map, Option, Some, None, Ok}
use Rattle.std.proofs.Common.{sym, ◌∙◌, arith}
use Rattle.std.proofs.Math.Path.{ap, subst}
use Rattle.std.proofs.Math.Bool.{false}
use mathlib.Core.List.{List, [], ◌∷◌, map, Memᴰ}
use Rattle.std.proofs.Math.Nat.{sub-zero}
use Rattle.compare.specs.declared.InternalDefaultDS.{InternalDefaultDS}
use Rattle.compare.specs.Dataset.{compare_of, ranks_above}
use Rattle.choice.specs.declared.BestAnnounceMessage.{BestAnnounceMessage}
use Rattle.choice.specs.declared.Candidate.{Candidate}
use Rattle.choice.specs.Choice.{choose}
use Rattle.choice.specs.Candidate.{dataset_of, ranking, stays, itself, whole, stays_by, winner, ebest, single}
use Rattle.agreement.specs.Agreement.{Agreeing}
use Rattle.choice.proofs.Chosen.{choose-map, all_in, all-at, all_map}
use Rattle.agreement.proofs.Winner.{winner_in, winner-shown, none_above}
use Rattle.states.specs.Ports.{ebest_of}
use Rattle.slot.specs.declared.ForeignAnnounceMessage.{ForeignAnnounceMessage}
use Rattle.history.specs.Port.{Turn}
use Rattle.history.specs.Book.{decide, turns}
use Rattle.history.specs.Sound.{sound_book}
use Rattle.histories.specs.History.{candidates_of}
use Rattle.histories.proofs.Decision.{Agreed, agreeing, single-ebest, ebest-winner}
use Rattle.book.specs.Layout.{book_of, reads}
use Rattle.book.specs.Rules.{store_refusal}
use Rattle.book.proofs.Rules.{checked}
use Rattle.book.proofs.View.{sound_view}
use Rattle.candidates.specs.Candidates.{numbered, standing, placed, offered_in, laid, candidate_answer}
use Rattle.candidates.proofs.Steps.{placed-nth, answer-done}

-- ---- elements and their places

module _ {A : Type 0} where
  numbered-map : (n : ℕ) (xs : List A) → map (λ (o : ℕ × A). o.1) (numbered n xs) ≡ xs
  numbered-map n [] = refl
  numbered-map n (x ∷ xs) = ap (λ l. x ∷ l) (numbered-map (suc n) xs)

  numbered_in : (n : ℕ) (xs : List A) (o : ℕ × A) → Memᴰ o (numbered n xs) → Memᴰ o.1 xs
  numbered_in n [] o m = elim m [ ]
  numbered_in n (x ∷ xs) o (Memᴰ.head e) = Memᴰ.head (ap (λ (p : ℕ × A). p.1) e)
  numbered_in n (x ∷ xs) o (Memᴰ.tail m) = Memᴰ.tail (numbered_in (suc n) xs o m)

  -- each stands at its place
  numbered-at : (n : ℕ) (xs : List A) (o : ℕ × A) → Memᴰ o (numbered n xs) → (n ≤ o.0) × (slice_get xs (o.0 - n) ≡ Some o.1)
  numbered-at n [] o m = elim m [ ]
  numbered-at n (x ∷ xs) o (Memᴰ.head e) =
      let p : o.0 ≡ n = ap (λ (p : ℕ × A). p.0) e in
      let z : o.0 - n ≡ 0 = omega arith in
      (omega arith, ap (slice_get (x ∷ xs)) z ∙ ap Some (sym (ap (λ (p : ℕ × A). p.1) e)))
  numbered-at n (x ∷ xs) o (Memᴰ.tail m) =
      let r = numbered-at (suc n) xs o m in
      let z : o.0 - n ≡ suc (o.0 - suc n) = omega (arith, r.0) in
      (omega (arith, r.0), ap (slice_get (x ∷ xs)) z ∙ r.1)

map-some : {A B : Type 0} (f : A → B) (o : Option A) (b : B) → option_map f o ≡ Some b → (a : A) × (o ≡ Some a) × (f a ≡ b)
map-some f None b e = cc
map-some f (Some a) b e = (a, refl, cc)

-- ---- the choice over a list of messages with their places, which it does not read

-- a candidate without its place
abbrev pub unplaced : Candidate → Candidate
unplaced c =
    record {
      gm_priority_1 = c.gm_priority_1;
      clock_class = c.clock_class;
      clock_accuracy = c.clock_accuracy;
      gm_priority_2 = c.gm_priority_2;
      offset_scaled_log_variance = c.offset_scaled_log_variance;
      steps_removed = c.steps_removed;
      receiver_port = c.receiver_port;
      gm_identity = c.gm_identity;
      sender = c.sender;
      receiver_clock = c.receiver_clock;
      age = c.age;
      place = 0;
    }

module _ (bs : List BestAnnounceMessage) where
  placed-winner : winner itself (placed bs) ≡ option_map standing (winner standing (numbered 0 bs))
  unfolding placed
  placed-winner = winner-shown standing (numbered 0 bs)

  whole-winner : winner whole bs ≡ option_map (λ (o : ℕ × BestAnnounceMessage). o.1) (winner standing (numbered 0 bs))
  unfolding winner stays ranking
  whole-winner =
      ap (choose (stays_by whole)) (sym (numbered-map 0 bs)) ∙ choose-map (λ (o : ℕ × BestAnnounceMessage). o.1) (stays_by whole) (numbered 0 bs)

  -- with the place forgotten it is the choice of the messages,
  unplaced-winner : option_map unplaced (winner itself (placed bs)) ≡ option_map whole (winner whole bs)
  unplaced-winner = ap (option_map unplaced) placed-winner ∙ same (winner standing (numbered 0 bs)) ∙ sym (ap (option_map whole) whole-winner)
    where
      same : (w : Option (ℕ × BestAnnounceMessage)) → option_map unplaced (option_map standing w) ≡ option_map whole (option_map (λ (o : ℕ × BestAnnounceMessage). o.1) w)
      same None = refl
      same (Some o) = refl

  -- the one chosen stands at its place in the list,
  chosen_at : (c : Candidate) → winner itself (placed bs) ≡ Some c → slice_get (placed bs) c.place ≡ Some c
  chosen_at c e =
      let w = map-some standing (winner standing (numbered 0 bs)) c (sym placed-winner ∙ e) in
      let at = (numbered-at 0 bs w.0 (winner_in standing (numbered 0 bs) w.0 w.1)).1 in
      let k : c.place ≡ w.0.0 = ap (λ (d : Candidate). d.place) (sym w.2) in
      ap (slice_get (placed bs)) k
      ∙ placed-nth w.0.0 bs
      ∙ ap (option_map (λ b. standing (w.0.0, b))) (ap (slice_get bs) (sym (sub-zero w.0.0)) ∙ at)
      ∙ ap Some w.2

  -- as does the message,
  message-at : (c : Candidate) → winner itself (placed bs) ≡ Some c → slice_get bs c.place ≡ winner whole bs
  message-at c e =
      let w = map-some standing (winner standing (numbered 0 bs)) c (sym placed-winner ∙ e) in
      let at = (numbered-at 0 bs w.0 (winner_in standing (numbered 0 bs) w.0 w.1)).1 in
      let k : c.place ≡ w.0.0 = ap (λ (d : Candidate). d.place) (sym w.2) in
      ap (slice_get bs) (k ∙ sym (sub-zero w.0.0)) ∙ at ∙ sym (whole-winner ∙ ap (option_map (λ (o : ℕ × BestAnnounceMessage). o.1)) w.1)

  -- and under the agreement none of the list ranks above it.
  chosen-none-above : Agreeing whole bs → (c : Candidate) → winner itself (placed bs) ≡ Some c
      → (d : Candidate) → Memᴰ d (placed bs) → ranks_above (compare_of (dataset_of d) (dataset_of c)) ≡ false
  unfolding placed
  chosen-none-above a c e d m =
      let w = map-some standing (winner standing (numbered 0 bs)) c (sym placed-winner ∙ e) in
      let os = numbered 0 bs in
      let standing-agree : Agreeing standing os =
      record {
        foreign = λ o n. a.foreign o.1 (numbered_in 0 bs o n);
        agree = λ o p n l. a.agree o.1 p.1 (numbered_in 0 bs o n) (numbered_in 0 bs p l);
      } in
      let below : Candidate → Type 0 = λ x. ranks_above (compare_of (dataset_of x) (dataset_of c)) ≡ false in
      all-at below d (map standing os)
      (all_map (λ o. Memᴰ o os) below standing
      (λ o n. subst (λ (x : Candidate). ranks_above (compare_of (dataset_of (standing o)) (dataset_of x)) ≡ false) w.2 (none_above standing-agree w.0 w.1 o n))
      os (all_in os (λ o n. n)))
      m

-- ---- the calls

-- what `find_best` answers over the list that a caller lays
abbrev pub found_once : List ℕ → Option Candidate
found_once s = winner itself (laid s)

module _ (s : List ℕ) (checks : store_refusal s ≡ 0) where
  -- The one chosen is the candidate that the call answers for its place.
  pub once-asked : (c : Candidate) → found_once s ≡ Some c → candidate_answer s c.place ≡ Ok (Some c)
  once-asked c e = sym (answer-done s c.place checks) ∙ ap Ok (chosen_at (offered_in s) c e)

  module _ (agreed : Agreed reads (book_of s)) where
    sound : sound_book reads (book_of s) ≡ true
    sound = sym (sound_view s) ∙ (checked s checks).sound

    once-single : winner whole (offered_in s) ≡ ebest whole (candidates_of reads (book_of s))
    unfolding single
    once-single = single-ebest reads (book_of s) sound agreed

    -- With its place forgotten it is the candidate of Ebest, or there is neither:
    pub once-ebest : option_map unplaced (found_once s) ≡ option_map whole (ebest whole (candidates_of reads (book_of s)))
    once-ebest = unplaced-winner (offered_in s) ∙ ap (option_map whole) once-single

    -- of Ebest of the decision by ports.
    pub once-decided : (own : InternalDefaultDS) (listening : ℕ)
        → option_map unplaced (found_once s) ≡ option_map whole (ebest_of (map (λ (T : Turn ForeignAnnounceMessage). T.best) (turns reads (decide own listening) (book_of s))))
    once-decided own listening = once-ebest ∙ ap (option_map whole) (sym (ebest-winner reads own listening (book_of s)))

    -- Ebest itself is the message that stands at its place.
    pub once-message : (c : Candidate) → found_once s ≡ Some c → slice_get (offered_in s) c.place ≡ ebest whole (candidates_of reads (book_of s))
    once-message c e = message-at (offered_in s) c e ∙ once-single

    -- None of the list ranks above it.
    pub once-none-above : (c : Candidate) → found_once s ≡ Some c
        → (d : Candidate) → Memᴰ d (laid s) → ranks_above (compare_of (dataset_of d) (dataset_of c)) ≡ false
    once-none-above c e = chosen-none-above (offered_in s) (agreeing reads (book_of s) sound agreed) c e
