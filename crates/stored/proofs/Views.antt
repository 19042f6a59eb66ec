-- A real call, and any history of them, does to the words of a store what the same calls do to the book that it holds.
-- Assumes nothing.
use Rattle.std.specs.Prelude.{ℕ, zero, suc, ◌+◌, ◌≤◌, ◌<◌, ◌≡◌, Bool, true, false, cond, List, [], ◌∷◌, map, ltb, eqb, drop, Option, Result, Ok, Err}
use Rattle.std.proofs.Math.Path.{refl, ap}
use Rattle.std.proofs.Common.{sym, ◌∙◌, arith, eqb-true, ne_eqb, take_at}
use Rattle.std.proofs.Math.ListN.{length}
use Rattle.std.proofs.lemmas.List.{length-map}
use Rattle.wire.specs.Refusal.{on_zero, on-done}
use Rattle.compare.specs.declared.InternalDefaultDS.{InternalDefaultDS}
use Rattle.choice.specs.declared.BestAnnounceMessage.{BestAnnounceMessage}
use Rattle.choice.specs.Choice.{All}
use Rattle.states.specs.declared.PortAnswer.{PortAnswer}
use Rattle.states.specs.Ports.{ebest_of, answers_from}
use Rattle.slot.specs.declared.ForeignAnnounceMessage.{ForeignAnnounceMessage}
use Rattle.history.specs.Rules.{step_max}
use Rattle.history.specs.Port.{Site, Port, Turn, Frame, bad, announce, idle, hear, pass, unchanged, taking, refusal, register_port, hearing, turn}
use Rattle.history.specs.Book.{Book, Call, register, age, answer_from, number, total, turns_from, turns, fresh_book, states_of}
use Rattle.history.specs.Book as calls
use Rattle.history.specs.Sound.{startable}
use Rattle.history.proofs.Tests.{by}
use Rattle.history.proofs.Found.{register-answer}
use Rattle.histories.specs.History.{Event, start, call, step, run_all}
use Rattle.book.specs.Layout.{store_words, book_of, reads}
use Rattle.book.specs.Rules.{store_refusal}
use Rattle.book.proofs.Rules.{checked}
use Rattle.fresh.specs.Fresh.{site_with}
use Rattle.frame.specs.Frame.{read_frame}
use Rattle.ageing.specs.Age.{aged_store}
use Rattle.foreign_master.specs.declared.Tallies.{Tallies}
use Rattle.refused.specs.declared.Refusal.{Refusal}
use Rattle.refused.specs.Refusal.{refused, answer_of}
use Rattle.refused.proofs.Laws.{number-of}
use Rattle.foreign_master.specs.Calls.{tallies_of, answer_to, answer_in, exit_in, register_call, taken_in, frame_of}
use Rattle.foreign_master.proofs.Steps.{settings_refused, tallies-eq}
use Rattle.foreign_master.proofs.Steps as steps
use Rattle.foreign_master.proofs.Laws.{After, aged, registered, Started, started, start-refused, refused-exit}
use Rattle.foreign_master.proofs.Numbers.{register-le, age-le}
use Rattle.bmca.specs.declared.Decision.{Decision}
use Rattle.bmca.specs.Decide.{blanks, decision_by, own_in, decide_call, decide_of, decide_answer}
use Rattle.bmca.proofs.Laws as bmca
use Rattle.stored.specs.Calls.{StoreCall, fresh_start, register_frame, step_age, decide, Wired, exit_of, number_of, no_tallies, tallies_in, consumed_in, tallies_to, event_at, run_store, events_of, answers_in, answers_to}

-- ---- what a call on a book answers

-- its number: a fresh start is refused 14
abbrev pub number_at : Event ForeignAnnounceMessage → Book ForeignAnnounceMessage → ℕ
number_at (start S ns) B = cond (startable S.listed ns) 0 14
number_at (call c) B = number c (turns reads c B)

-- its tallies: they count the messages that the ports' turns name
abbrev pub tallies_at : Event ForeignAnnounceMessage → Book ForeignAnnounceMessage → Tallies
tallies_at (start S ns) B = no_tallies
tallies_at (call c) B = tallies_of (turns reads c B)

-- the states that it recommends
abbrev pub states_at : Event ForeignAnnounceMessage → Book ForeignAnnounceMessage → List PortAnswer
states_at (start S ns) B = []
states_at (call (register q f)) B = []
states_at (call (age step)) B = []
states_at (call (calls.decide own listening)) B = states_of own listening (turns reads (calls.decide own listening) B)

-- ---- a refused call on a book names no message

module _ (f : Turn ForeignAnnounceMessage → List ForeignAnnounceMessage) (calm : (n : ℕ) (P : Port ForeignAnnounceMessage) → length (f (unchanged n P)) ≡ 0) (S : Site) where
  hearing-none : (k : ℕ) (g : Frame ForeignAnnounceMessage) (P : Port ForeignAnnounceMessage) → ((hearing reads S k g P).answer ≡ 0 → ⊥) → length (f (hearing reads S k g P)) ≡ 0
  unfolding register_port
  hearing-none k (bad n) P h = calm n P
  hearing-none k (announce m) P h =
      ap (λ (b : Bool). length (f (cond b (taking reads m P) (unchanged (refusal reads S k m P) P)))) (ne_eqb (refusal reads S k m P) 0 (λ e. h (register-answer reads S k m P ∙ e)))
      ∙ calm (refusal reads S k m P) P

  behind-none : (q : ℕ) (g : Frame ForeignAnnounceMessage) (k : ℕ) (Ps : List (Port ForeignAnnounceMessage)) → q < k → total f (turns_from reads S k (register q g) Ps) ≡ 0
  behind-none q g k [] h = refl
  behind-none q g k (P ∷ Ps) h =
      let here : length (f (turn reads S k (cond (eqb q k) (hear g) idle) P)) ≡ 0 =
      ap (λ (b : Bool). length (f (turn reads S k (cond b (hear g) idle) P))) (ne_eqb q k (λ e. omega arith)) ∙ calm 0 P in
      omega (arith, here, behind-none q g (suc k) Ps (omega arith))

  register-none : (q : ℕ) (g : Frame ForeignAnnounceMessage) (k : ℕ) (Ps : List (Port ForeignAnnounceMessage)) → (answer_from k q (turns_from reads S k (register q g) Ps) ≡ 0 → ⊥)
      → total f (turns_from reads S k (register q g) Ps) ≡ 0
  register-none q g k [] h = refl
  register-none q g k (P ∷ Ps) h =
      let Ts = turns_from reads S (suc k) (register q g) Ps in
      let T : Bool → Turn ForeignAnnounceMessage = λ b. turn reads S k (cond b (hear g) idle) P in
      by (λ b. (cond b (T b).answer (answer_from (suc k) q Ts) ≡ 0 → ⊥) → length (f (T b)) + total f Ts ≡ 0) (eqb q k)
      (λ y n. omega (arith, hearing-none k g P n, behind-none q g (suc k) Ps (omega (arith, eqb-true q k y))))
      (λ y n. omega (arith, calm 0 P, register-none q g (suc k) Ps n)) h

  age-none : (step : ℕ) → ltb step step_max ≡ false → (k : ℕ) (Ps : List (Port ForeignAnnounceMessage)) → total f (turns_from reads S k (age step) Ps) ≡ 0
  age-none step e k [] = refl
  age-none step e k (P ∷ Ps) =
      let here : length (f (turn reads S k (cond (ltb step step_max) (pass step) idle) P)) ≡ 0 =
      ap (λ (b : Bool). length (f (turn reads S k (cond b (pass step) idle) P))) e ∙ calm 0 P in
      omega (arith, here, age-none step e (suc k) Ps)

  call_none : (c : Call ForeignAnnounceMessage) (Ps : List (Port ForeignAnnounceMessage)) → (number c (turns_from reads S 1 c Ps) ≡ 0 → ⊥) → total f (turns_from reads S 1 c Ps) ≡ 0
  unfolding number
  call_none (register q g) Ps h = register-none q g 1 Ps h
  call_none (age step) Ps h =
      age-none step (by (λ b. (◌≡◌ {A = ℕ} (cond b 0 13) 0 → ⊥) → b ≡ false) (ltb step step_max) (λ y n. absurd (n refl)) (λ y n. refl) h) 1 Ps
  call_none (calls.decide own listening) Ps h = absurd (h refl)

none_named : (c : Call ForeignAnnounceMessage) (B : Book ForeignAnnounceMessage) → (number c (turns reads c B) ≡ 0 → ⊥) → tallies_of (turns reads c B) ≡ no_tallies
unfolding turns
none_named c B h =
    tallies-eq (call_none (λ T. T.evicted) (λ n P. refl) B.site c B.ports h)
    (call_none (λ T. T.aged_out) (λ n P. refl) B.site c B.ports h)
    (call_none (λ T. T.consumed) (λ n P. refl) B.site c B.ports h)

-- ---- the answer of a registration or an ageing

module _ (s : List ℕ) (c : Call ForeignAnnounceMessage) where
  abbrev k : ℕ
  k = number c (turns reads c (book_of s))

  abbrev t : Tallies
  t = tallies_of (turns reads c (book_of s))

  -- another number than 0 is a refusal
  refused-work : (work : List ℕ) → ((answer_of (answer_in s c)).0 ≡ 0 → ⊥) → exit_in s c work ≡ s
  refused-work work h = told (answer_in s c) refl h
    where
      told : (a : Result Tallies Refusal) → answer_in s c ≡ a → ((answer_of a).0 ≡ 0 → ⊥) → exit_in s c work ≡ s
      told (Ok t) e n = absurd (n refl)
      told (Err r) e n = refused-exit s c work r e

  module _ (checks : store_refusal s ≡ 0) where
    answer-is : answer_in s c ≡ on_zero k (Ok t) refused
    unfolding answer_in answer_to
    answer-is = on-done (store_refusal s) (on_zero k (Ok t) refused) refused checks

    answer-number : k ≤ 17 → (answer_of (answer_in s c)).0 ≡ k
    answer-number h = ap (λ (a : Result Tallies Refusal). (answer_of a).0) answer-is ∙ pick k h
      where
        pick : (n : ℕ) → n ≤ 17 → (answer_of (on_zero n (Ok t) refused)).0 ≡ n
        pick zero h = refl
        pick (suc n) h = number-of n (omega (arith, h))

    answer-tallies : tallies_in (answer_in s c) ≡ t
    answer-tallies = ap tallies_in answer-is ∙ pick k refl
      where
        pick : (n : ℕ) → k ≡ n → tallies_in (on_zero n (Ok t) refused) ≡ t
        pick zero e = refl
        pick (suc n) e = sym (none_named c (book_of s) (λ z. omega (arith, e, z)))

-- ---- the answer of a decision

-- an answer a port
length-answers : (own : InternalDefaultDS) (g : Option BestAnnounceMessage) (listening k : ℕ) (os : List (Option BestAnnounceMessage)) → length (answers_from own g listening k os) ≡ length os
unfolding answers_from
length-answers own g listening k [] = refl
length-answers own g listening k (o ∷ os) = ap suc (length-answers own g listening (suc k) os)

-- the blank answers past the ports are none of theirs
answers-first : (own : InternalDefaultDS) (listening : ℕ) (Ts : List (Turn ForeignAnnounceMessage)) → answers_in (Ok (decision_by own listening Ts)) ≡ states_of own listening Ts
answers-first own listening Ts =
    let best : Turn ForeignAnnounceMessage → Option BestAnnounceMessage = λ T. T.best in
    take_at (states_of own listening Ts) (drop (length Ts) blanks) (length Ts) (length-answers own (ebest_of (map best Ts)) listening 0 (map best Ts) ∙ length-map Ts best)

-- ---- one call

-- A call that is refused leaves every word, whatever the words are.
pub refused-words : (c : StoreCall) (s : List ℕ) → (number_of c s ≡ 0 → ⊥) → exit_of c s ≡ s
refused-words (fresh_start own any listed intervals) s h = start-refused s (site_with own any listed) intervals h
refused-words (register_frame port frame) s h = refused-work s (register_call port frame) (taken_in s port (frame_of (read_frame frame))) h
refused-words (step_age step) s h = refused-work s (age step) (aged_store step s) h
refused-words (decide p₁ quality p₂ listening) s h = told (decide_answer s p₁ quality p₂ listening) refl h
  where
    told : (a : Result Decision Refusal) → decide_answer s p₁ quality p₂ listening ≡ a → ((answer_of a).0 ≡ 0 → ⊥) → exit_of (decide p₁ quality p₂ listening) s ≡ s
    told (Ok d) e n = absurd (n refl)
    told (Err r) e n = bmca.refused-exit s p₁ quality p₂ listening r e

-- what a call on a store has done: the length stays, the book is the one after the same call on the book, and it is sound
pub record Seen (s : List ℕ) (c : StoreCall) : Type 0 where
  pub size : length (exit_of c s) ≡ length s
  pub book : book_of (exit_of c s) ≡ step reads (event_at s c) (book_of s)
  pub sound : store_refusal (exit_of c s) ≡ 0

-- what it answers: the number, the tallies and the states of the same call on the book
pub record Answered (s : List ℕ) (c : StoreCall) : Type 0 where
  pub number : number_of c s ≡ number_at (event_at s c) (book_of s)
  pub tallies : tallies_to c s ≡ tallies_at (event_at s c) (book_of s)
  pub states : answers_to c s ≡ states_at (event_at s c) (book_of s)

module _ (s : List ℕ) (checks : store_refusal s ≡ 0) where
  -- a fresh start
  module _ (own : ℕ) (any : Bool) (listed intervals : List ℕ) where
    abbrev S : Site
    S = site_with own any listed

    start_view : Seen s (fresh_start own any listed intervals) × Answered s (fresh_start own any listed intervals)
    start_view = go (startable listed intervals) refl
      where
        go : (b : Bool) → startable listed intervals ≡ b → Seen s (fresh_start own any listed intervals) × Answered s (fresh_start own any listed intervals)
        go true y =
            let zero_is = sym (steps.begins s S intervals (checked s checks).room y).0 in
            let a = started s S intervals zero_is in (
              record { size = a.size; book = a.book ∙ sym (ap (λ (b : Bool). cond b (fresh_book S intervals) (book_of s)) y); sound = a.sound },
              record { number = zero_is ∙ sym (ap (λ (b : Bool). cond b 0 14) y); tallies = refl; states = refl },
            )
        go false y =
            let r = settings_refused s S intervals (checked s checks).room y in
            let same = sym r.1 in (
              record {
                size = ap length same;
                book = ap book_of same ∙ sym (ap (λ (b : Bool). cond b (fresh_book S intervals) (book_of s)) y);
                sound = ap store_refusal same ∙ checks;
              },
              record { number = sym r.0 ∙ sym (ap (λ (b : Bool). cond b 0 14) y); tallies = refl; states = refl },
            )

  of_call : (c : StoreCall) (d : Call ForeignAnnounceMessage) → event_at s c ≡ call d → After s d (exit_of c s) → Seen s c
  of_call c d e a = record { size = a.size; book = a.book ∙ sym (ap (λ (x : Event ForeignAnnounceMessage). step reads x (book_of s)) e); sound = a.sound }

  -- A call does to the store what it does to the book, and a sound store stays one.
  pub call_view : (c : StoreCall) → Wired c → Seen s c
  call_view (fresh_start own any listed intervals) w = (start_view own any listed intervals).0
  call_view (register_frame port frame) w = of_call (register_frame port frame) (register_call port frame) refl (registered s frame checks w port)
  call_view (step_age step) w = of_call (step_age step) (age step) refl (aged s checks step)
  call_view (decide p₁ quality p₂ listening) w =
      of_call (decide p₁ quality p₂ listening) (decide_call (book_of s) p₁ quality p₂ listening) refl (bmca.decided s p₁ quality p₂ listening checks)

  -- Its answer is that of the call on the book.
  pub call-answer : (c : StoreCall) → Answered s c
  unfolding number decide_answer decide_of
  call-answer (fresh_start own any listed intervals) = (start_view own any listed intervals).1
  call-answer (register_frame port frame) =
      record { number = answer-number s (register_call port frame) checks (register-le s port frame); tallies = answer-tallies s (register_call port frame) checks; states = refl }
  call-answer (step_age step) = record { number = answer-number s (age step) checks (age-le s step); tallies = answer-tallies s (age step) checks; states = refl }
  call-answer (decide p₁ quality p₂ listening) =
      let done = on-done (store_refusal s) (Ok (decide_of (book_of s) p₁ quality p₂ listening)) refused checks in
      record {
        number = ap (λ (a : Result Decision Refusal). (answer_of a).0) done;
        tallies = ap consumed_in done;
        states = ap answers_in done ∙ answers-first (own_in (book_of s) p₁ quality p₂) listening (turns reads (decide_call (book_of s) p₁ quality p₂ listening) (book_of s));
      }

-- ---- any history

-- what a history has done: the length stays, the book is the one after the same history of it, and it is sound
pub record SeenAll (s : List ℕ) (cs : List StoreCall) : Type 0 where
  pub size : length (run_store s cs) ≡ length s
  pub book : book_of (run_store s cs) ≡ run_all reads (book_of s) (events_of s cs)
  pub sound : store_refusal (run_store s cs) ≡ 0

-- A history does to the store what it does to the book, and a sound store stays one at every moment.
pub run_view : (s : List ℕ) → store_refusal s ≡ 0 → (cs : List StoreCall) → All Wired cs → SeenAll s cs
run_view s checks [] w = record { size = refl; book = refl; sound = checks }
run_view s checks (c ∷ cs) w =
    let v = call_view s checks c w.0 in
    let r = run_view (exit_of c s) v.sound cs w.1 in
    record {
      size = r.size ∙ v.size;
      book = r.book ∙ ap (λ (B : Book ForeignAnnounceMessage). run_all reads B (events_of (exit_of c s) cs)) v.book;
      sound = r.sound;
    }

-- ---- the beginning

module _ (s : List ℕ) (own : ℕ) (any : Bool) (listed intervals : List ℕ) where
  -- On any words that are long enough a fresh start with settings in range is taken,
  pub start-taken : store_words ≤ length s → startable listed intervals ≡ true → number_of (fresh_start own any listed intervals) s ≡ 0
  start-taken room fit = sym (steps.begins s (site_with own any listed) intervals room fit).0

  -- and one that is taken leaves a sound store that holds the fresh book, so that a history may begin with it.
  pub begins : number_of (fresh_start own any listed intervals) s ≡ 0 → Started s (site_with own any listed) intervals
  begins e = started s (site_with own any listed) intervals e
