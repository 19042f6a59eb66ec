-- A decision on a sound store: the states that it recommends are those of the decision on the book's candidates, S1 goes to one port at
-- most, a port's state reads its own Erbest and bit, Ebest and own data, and bits above the count of ports are ignored.
-- Assumes nothing.
use Prim.Native.Nat.{ℕ, zero, suc, ◌+◌, ◌-◌, ◌/◌, ◌%◌, ◌^◌, ◌≤◌, ◌<◌}
use Rattle.std.specs.Prelude.{◌≡◌, refl, Bool, cond, eqb, Option, Result, Ok}
use Rattle.std.proofs.Common.{sym, ap₂, ◌∙◌, arith, not-suc-le-zero}
use Rattle.std.proofs.Math.Path.{ap}
use mathlib.Core.List.{List, [], ◌∷◌, ◌++◌, map}
use Rattle.std.proofs.Math.Option as option
use Rattle.std.proofs.Math.Option.{some, some-injective}
use Rattle.std.proofs.Math.ListN.{length, drop, get_or, get_elem?, length-map}
use Rattle.std.proofs.Math.Pow.{field, mod-mod-pow}
use Rattle.wire.specs.Flags.{bit}
use Rattle.wire.specs.Refusal.{on_zero}
use Rattle.refused.specs.declared.Refusal.{Refusal}
use Rattle.refused.specs.Refusal.{refused}
use Rattle.announce.specs.declared.ClockQuality.{ClockQuality}
use Rattle.compare.specs.declared.InternalDefaultDS.{InternalDefaultDS}
use Rattle.choice.specs.declared.BestAnnounceMessage.{BestAnnounceMessage}
use Rattle.choice.specs.Candidate.{whole, erbests, ebest}
use Rattle.decision.specs.State.{state_of}
use Rattle.states.specs.declared.PortAnswer.{PortAnswer}
use Rattle.states.specs.Ports.{ebest_of, answers_from, decision_of}
use Rattle.states.specs.Slave.{recommends_s1, slave_port, flags_from, flags, ones}
use Rattle.slot.specs.Blocks.{block}
use Rattle.slot.specs.declared.ForeignAnnounceMessage.{ForeignAnnounceMessage}
use Rattle.history.specs.Port.{Site, Port, Turn, decide_port}
use Rattle.history.specs.Book.{decide, states_of, turns_from, turns}
use Rattle.histories.specs.History.{candidates_of}
use Rattle.histories.proofs.Decision.{states-decision, slave-flags, slave-count}
use Rattle.histories.proofs.Independence.{state-alone, nth-map}
use Rattle.book.specs.Below.{tab, length-tab}
use Rattle.book.specs.Layout.{port_words, port_at, port_of, site_of, book_of, reads}
use Rattle.book.specs.Rules.{store_refusal}
use Rattle.book.proofs.Rules.{checked}
use Rattle.foreign_master.specs.Calls.{tallies_of}
use Rattle.bmca.specs.declared.Decision.{Decision}
use Rattle.bmca.specs.Decide.{blanks, decision_by, own_in, decide_call, decide_of, decide_answer, erbest_at}
use Rattle.bmca.proofs.View.{decide-turns, erbests_view}
use Rattle.stored.specs.Calls.{answers_in}
use Rattle.stored.specs.Calls as stored
use Rattle.stored.proofs.Views.{call-answer}

-- element i of a function's values
pub nth-tab : {A : Type 0} (n : ℕ) (f : ℕ → A) (i : ℕ) → i < n → get_elem? (tab n f) i ≡ some (f i)
nth-tab zero f i h = absurd (not-suc-le-zero h)
nth-tab (suc n) f zero h = refl
nth-tab (suc n) f (suc i) h = nth-tab n (λ k. f (suc k)) i (omega arith)

module _ (s : List ℕ) (checks : store_refusal s ≡ 0) (p₁ : ℕ) (quality : ClockQuality) (p₂ listening : ℕ) where
  abbrev own : InternalDefaultDS
  own = own_in (book_of s) p₁ quality p₂

  abbrev Ts : List (Turn ForeignAnnounceMessage)
  Ts = turns reads (decide_call (book_of s) p₁ quality p₂ listening) (book_of s)

  abbrev best : Turn ForeignAnnounceMessage → Option BestAnnounceMessage
  best T = T.best

  answers-turns : answers_in (decide_answer s p₁ quality p₂ listening) ≡ states_of own listening Ts
  answers-turns = (call-answer s checks (stored.decide p₁ quality p₂ listening)).states

  -- The states are those of the decision on the candidates that the store's book holds,
  pub states-are : answers_in (decide_answer s p₁ quality p₂ listening) ≡ decision_of own listening (candidates_of reads (book_of s))
  states-are = answers-turns ∙ states-decision reads own listening (book_of s)

  -- S1 is recommended to the port that received Ebest, and to no other port,
  pub s1_flags : flags (answers_in (decide_answer s p₁ quality p₂ listening))
      ≡ flags_from (slave_port own (ebest whole (candidates_of reads (book_of s)))) 1 (erbests whole (candidates_of reads (book_of s)))
  s1_flags = ap flags answers-turns ∙ slave-flags reads own listening (book_of s)

  -- so to exactly one port when our class lies outside 1 to 127, some port has a candidate and our own data ranks below Ebest; else to none.
  pub s1_count : ones (flags (answers_in (decide_answer s p₁ quality p₂ listening))) ≡ cond (recommends_s1 own (ebest whole (candidates_of reads (book_of s)))) 1 0
  s1_count = ap (λ (answers : List PortAnswer). ones (flags answers)) answers-turns ∙ slave-count reads own listening (book_of s)

  -- the Erbests are those that the words hold
  bests_are : tab (get_or s 0 0) (erbest_at s) ≡ map best Ts
  bests_are = erbests_view s (checked s checks).room (checked s checks).sound own listening

  -- The state of port 1 + i is by own data, Ebest, the port's Erbest and its bit.
  pub state-is : (i : ℕ) → i < get_or s 0 0
      → get_elem? (answers_in (decide_answer s p₁ quality p₂ listening)) i
      ≡ some (record { port_number = suc i; state = state_of own (ebest_of (tab (get_or s 0 0) (erbest_at s))) (erbest_at s i) (bit listening i) })
  state-is i h =
      let T = decide_port reads (site_of s) (1 + i) (port_of (block s (port_at i) port_words)) in
      let there : get_elem? Ts i ≡ some T =
      ap (λ (l : List (Turn ForeignAnnounceMessage)). get_elem? l i) (decide-turns s (checked s checks).room (checked s checks).sound own listening) ∙ nth-tab (get_or s 0 0) _ i h in
      let erbest : erbest_at s i ≡ T.best =
      some-injective (erbest_at s i) T.best
      (sym (nth-tab (get_or s 0 0) (erbest_at s) i h) ∙ ap (λ (l : List (Option BestAnnounceMessage)). get_elem? l i) bests_are ∙ nth-map best Ts i ∙ ap (option.map best) there) in
      ap (λ (l : List PortAnswer). get_elem? l i) answers-turns
      ∙ state-alone own listening Ts T i there
      ∙ ap₂ (λ (os : List (Option BestAnnounceMessage)) (o : Option BestAnnounceMessage). some (record { port_number = suc i; state = state_of own (ebest_of os) o (bit listening i) }))
      (sym bests_are) (sym erbest)

-- ---- bits above the count of ports

-- bit k of a byte cut to n bits
cut-bit : (x n k : ℕ) → k < n → bit (x % 2 ^ n) k ≡ bit x k
cut-bit x n k h =
    let j : ℕ = n - k - 1 in
    let e : n ≡ j + 1 + k = omega arith in
    ap (λ (b : ℕ). eqb b 1)
    (ap (λ (m : ℕ). x % 2 ^ m / 2 ^ k % 2) e ∙ ap (λ (y : ℕ). y % 2) (field x (j + 1) k) ∙ mod-mod-pow (x / 2 ^ k) j 1)

answers-cut : (own : InternalDefaultDS) (g : Option BestAnnounceMessage) (listening n k : ℕ) (os : List (Option BestAnnounceMessage)) → k + length os ≤ n
    → answers_from own g (listening % 2 ^ n) k os ≡ answers_from own g listening k os
unfolding answers_from
answers-cut own g listening n k [] h = refl
answers-cut own g listening n k (o ∷ os) h =
    ap₂ (λ (b : Bool) (l : List PortAnswer). record { port_number = suc k; state = state_of own g o b } ∷ l)
    (cut-bit listening n k (omega arith)) (answers-cut own g listening n (suc k) os (omega arith))

module _ (S : Site) (own : InternalDefaultDS) where
  -- no turn reads the byte
  turns-cut : (l m k : ℕ) (Ps : List (Port ForeignAnnounceMessage)) → turns_from reads S k (decide own l) Ps ≡ turns_from reads S k (decide own m) Ps
  turns-cut l m k [] = refl
  turns-cut l m k (P ∷ Ps) = ap (λ (Ts : List (Turn ForeignAnnounceMessage)). decide_port reads S k P ∷ Ts) (turns-cut l m (suc k) Ps)

  length-turns : (l k : ℕ) (Ps : List (Port ForeignAnnounceMessage)) → length (turns_from reads S k (decide own l) Ps) ≡ length Ps
  length-turns l k [] = refl
  length-turns l k (P ∷ Ps) = ap suc (length-turns l (suc k) Ps)

module _ (s : List ℕ) (p₁ : ℕ) (quality : ClockQuality) (p₂ listening : ℕ) where
  -- Bits above the count of ports are ignored, whatever the words are.
  pub bits_ignored : decide_answer s p₁ quality p₂ (listening % 2 ^ get_or s 0 0) ≡ decide_answer s p₁ quality p₂ listening
  unfolding decide_answer decide_of turns book_of
  bits_ignored =
      let B = book_of s in
      let n : ℕ = get_or s 0 0 in
      let own = own_in B p₁ quality p₂ in
      let Us : ℕ → List (Turn ForeignAnnounceMessage) = λ l. turns reads (decide own l) B in
      let os = map (λ (T : Turn ForeignAnnounceMessage). T.best) (Us listening) in
      let count : length os ≡ n = length-map (Us listening) _ ∙ length-turns B.site own listening 1 B.ports ∙ length-tab n _ in
      let same : Us (listening % 2 ^ n) ≡ Us listening = turns-cut B.site own (listening % 2 ^ n) listening 1 B.ports in
      ap (λ (d : Decision). on_zero {A = Result Decision Refusal} (store_refusal s) (Ok d) refused)
      (ap (decision_by own (listening % 2 ^ n)) same
      ∙ ap (λ (answers : List PortAnswer). record { ports = length (Us listening); answers = answers ++ drop (length (Us listening)) blanks; tallies = tallies_of (Us listening) })
      (answers-cut own (ebest_of os) listening n 0 os (omega (arith, count))))
