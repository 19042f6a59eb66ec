-- What a decision does to the book that a store holds, and what its answer is by that book.
-- Assumes nothing.
use Prim.Native.Nat.{ℕ, zero, suc, ◌≤◌}
use Rattle.std.specs.Prelude.{◌≡◌, true, Option, Result, Ok, Err, List, ◌++◌, length, get_or}
use Rattle.std.proofs.Math.Path.{refl, sym, ap}
use Rattle.std.proofs.Common.{◌∙◌, arith}
use Rattle.std.proofs.Math.ListN.{drop}
use Rattle.wire.specs.Refusal.{on_zero, on-done, on-refused}
use Rattle.refused.specs.declared.Refusal.{Refusal}
use Rattle.refused.specs.Refusal.{number_of}
use Rattle.refused.specs.Refusal as refusal
use Rattle.refused.proofs.Laws.{number-positive, refused-number}
use Rattle.announce.specs.declared.ClockQuality.{ClockQuality}
use Rattle.compare.specs.declared.InternalDefaultDS.{InternalDefaultDS}
use Rattle.choice.specs.declared.BestAnnounceMessage.{BestAnnounceMessage}
use Rattle.states.specs.Ports.{answers_of}
use Rattle.slot.specs.declared.ForeignAnnounceMessage.{ForeignAnnounceMessage}
use Rattle.history.specs.Port.{Turn, decide_port}
use Rattle.history.specs.Book.{decide, number, turns, states_of}
use Rattle.book.specs.Below.{length-tab}
use Rattle.book.specs.Layout.{store_words, book_of, reads}
use Rattle.book.specs.Rules.{sound_words, store_refusal}
use Rattle.book.proofs.Rules.{checked}
use Rattle.foreign_master.specs.Calls.{tallies_of, exit_in}
use Rattle.foreign_master.proofs.Steps.{tallies-eq}
use Rattle.foreign_master.proofs.Laws.{After, done-after}
use Rattle.bmca.specs.declared.Decision.{Decision}
use Rattle.bmca.specs.Decide.{blanks, consuming_of, own_in, decide_call, decide_of, decide_answer, decide_exit, decided_store, gone_store}
use Rattle.bmca.specs.Plan.{plan_of, answers_in}
use Rattle.bmca.proofs.Planned.{answers_planned}
use Rattle.bmca.proofs.Words.{decided-length}
use Rattle.bmca.proofs.View.{decide-turns, decided_view, erbests_view, gone_view_store, others-none}

-- ---- the two ways of the call

module _ (s : List ℕ) (p₁ : ℕ) (quality : ClockQuality) (p₂ listening : ℕ) where
  abbrev own : InternalDefaultDS
  own = own_in (book_of s) p₁ quality p₂

  abbrev Ts : List (Turn ForeignAnnounceMessage)
  Ts = turns reads (decide own listening) (book_of s)

  abbrev decision : Result Decision Refusal
  decision = Ok (decide_of (book_of s) p₁ quality p₂ listening)

  pub refused : (e : Refusal) → number_of e ≡ store_refusal s → (Err e ≡ decide_answer s p₁ quality p₂ listening) × (s ≡ decide_exit s)
  unfolding decide_answer decide_exit
  refused e h =
      let no : number_of e ≡ 0 → ⊥ = λ z. omega (arith, number-positive e) in (
        refused-number e ∙ rw (← h) (sym (on-refused (number_of e) decision refusal.refused no)),
        rw (← h) (sym (on-refused (number_of e) (decided_store s) (λ _. s) no)),
      )

  module _ (checks : store_refusal s ≡ 0) where
    room : store_words ≤ length s
    room = (checked s checks).room

    sound : sound_words s ≡ true
    sound = (checked s checks).sound

    ports-are : length Ts ≡ get_or s 0 0
    ports-are = ap length (decide-turns s room sound own listening) ∙ length-tab (get_or s 0 0) _

    answers-are : answers_in s own (plan_of s own listening) ≡ states_of own listening Ts ++ drop (get_or s 0 0) blanks
    answers-are =
        answers_planned s own listening
        ∙ ap (λ (os : List (Option BestAnnounceMessage)). answers_of own listening os ++ drop (get_or s 0 0) blanks) (erbests_view s room sound own listening)

    tallies-are : consuming_of (gone_store s) ≡ tallies_of Ts
    unfolding decide_port
    tallies-are =
        tallies-eq (sym (others-none s room sound own listening (λ T. T.evicted) (λ q. refl)))
        (sym (others-none s room sound own listening (λ T. T.aged_out) (λ q. refl)))
        (gone_view_store s room sound own listening)

    -- The answer by the store's plan is that of the call.
    pub done :
        (Ok (record { ports = get_or s 0 0; answers = answers_in s own (plan_of s own listening); tallies = consuming_of (gone_store s) }) ≡ decide_answer s p₁ quality p₂ listening)
        × (decided_store s ≡ decide_exit s)
    unfolding decide_answer decide_exit decide_of
    done = (
      (λ i. Ok (record { ports = sym ports-are i; answers = (answers-are ∙ ap (λ (n : ℕ). states_of own listening Ts ++ drop n blanks) (sym ports-are)) i; tallies = tallies-are i }))
          ∙ sym (on-done (store_refusal s) decision refusal.refused checks),
      sym (on-done (store_refusal s) (decided_store s) (λ _. s) checks),
    )

    -- Done or refused, the store afterwards holds the book after the call, and it is sound.
    pub decided : After s (decide_call (book_of s) p₁ quality p₂ listening) (decide_exit s)
    unfolding decide_exit exit_in number
    decided =
        done-after s checks (decide_call (book_of s) p₁ quality p₂ listening) (decided_store s) refl (decided-length s room sound) (decided_view s room sound own listening)

  -- A refusal changes no word.
  pub refused-exit : (e : Refusal) → decide_answer s p₁ quality p₂ listening ≡ Err e → decide_exit s ≡ s
  unfolding decide_answer decide_exit
  refused-exit e h = by (store_refusal s) h
    where
      by : (k : ℕ) → on_zero k decision refusal.refused ≡ Err e → on_zero k (decided_store s) (λ _. s) ≡ s
      by zero q = cc
      by (suc k) q = refl
