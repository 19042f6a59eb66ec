-- What the calls do to the book that a store holds: their words are the calls on the book, and a sound book stays sound.
-- Assumes nothing.
use Rattle.std.specs.Prelude.{ℕ, zero, suc, ◌+◌, ◌-◌, ◌≤◌, ◌<◌, List, [], ◌∷◌, eqb, get_or, Result, Ok, Err, is_ok}
use Rattle.std.proofs.Math.Path.{◌≡◌, refl, sym, ap}
use Rattle.std.proofs.Common.{◌∙◌, subst, true≢false, arith, length-append}
use Rattle.std.proofs.Math.Bool.{Bool, true, false, cond}
use Rattle.std.proofs.Math.Logic.{⊎_elim}
use borrow.Author.Tests.{lt-ltb, le-ltb, ltb-false, eqb-true, eqb-false}
use Rattle.std.proofs.Math.Dec.{ltb}
use Rattle.std.proofs.Math.ListN.{length}
use Rattle.wire.specs.Be.{Bytes}
use Rattle.wire.specs.Refusal.{on_zero, on-done, on-refused}
use Rattle.frame.specs.declared.Message.{Message}
use Rattle.refused.specs.declared.Refusal.{Refusal}
use Rattle.refused.specs.Refusal.{number_of, refused}
use Rattle.refused.proofs.Laws.{number-positive}
use Rattle.frame.specs.Frame.{read_frame}
use Rattle.slot.specs.Blocks.{block, le-or-lt}
use Rattle.slot.specs.declared.ForeignAnnounceMessage.{ForeignAnnounceMessage}
use Rattle.history.specs.Rules.{step_max}
use Rattle.history.specs.Port.{Site, Port, bad, announce, turn, hear, idle}
use Rattle.history.specs.Book.{Book, Call, register, age, answer_from, number, turns_from, turns, after, fresh_book}
use Rattle.history.specs.Sound.{sound_book, startable}
use Rattle.history.proofs.Tests.{by}
use Rattle.history.proofs.Kept.{after-sound}
use Rattle.history.proofs.Found.{FoundAt, register-answer, book-found, refused-same}
use Rattle.book.specs.Below.{length-tab}
use Rattle.book.specs.Layout.{store_words, port_words, port_at, port_of, site_of, book_of, reads, lawful}
use Rattle.book.specs.Rules.{sound_words, store_refusal}
use Rattle.book.proofs.Rules.{checked}
use Rattle.book.proofs.View.{sound_view}
use Rattle.refusal.specs.Refusal.{refusal_in}
use Rattle.admission.specs.Admit.{registered_in}
use Rattle.admission.proofs.StoreView.{number-here, refusal_view, registered_in_view, length-registered_in}
use Rattle.ageing.specs.Age.{aged_store}
use Rattle.ageing.specs.StoreView.{aged_view, aged-length}
use Rattle.fresh.specs.Fresh.{begun}
use Rattle.fresh.specs.View.{begun-length, begun_view, begun-sound}
use Rattle.foreign_master.specs.declared.Tallies.{Tallies}
use Rattle.foreign_master.specs.Calls.{tallies_of, answer_to, answer_in, exit_in, fresh_answer, fresh_exit, held_of, frame_of, register_call, taken_in, register_answer, register_exit, age_exit}
use Rattle.foreign_master.proofs.Steps.{refused-later, done-both, whole_frame, one_less}

-- ---- a refusal changes no word

module _ (s : List ℕ) (c : Call ForeignAnnounceMessage) (work : List ℕ) where
  pub refused-exit : (e : Refusal) → answer_in s c ≡ Err e → exit_in s c work ≡ s
  unfolding answer_in exit_in answer_to
  refused-exit r e = outer (store_refusal s) e
    where
      inner : (k : ℕ) → on_zero k (Ok (tallies_of (turns reads c (book_of s)))) refused ≡ Err r → on_zero k work (λ _. s) ≡ s
      inner zero q = absurd (true≢false (ap is_ok q))
      inner (suc k) q = refl

      outer : (k : ℕ) → on_zero k (on_zero (number c (turns reads c (book_of s))) (Ok (tallies_of (turns reads c (book_of s)))) refused) refused ≡ Err r
          → on_zero k (on_zero (number c (turns reads c (book_of s))) work (λ _. s)) (λ _. s) ≡ s
      outer zero q = inner (number c (turns reads c (book_of s))) q
      outer (suc k) q = refl

-- ---- what is known of a store after a call

pub record After (s : List ℕ) (c : Call ForeignAnnounceMessage) (t : List ℕ) : Type 0 where
  pub size : length t ≡ length s
  pub book : book_of t ≡ after reads c (book_of s)
  pub sound : store_refusal t ≡ 0

-- a store that is long enough and holds a sound book passes the check
passes : (t : List ℕ) → store_words ≤ length t → sound_words t ≡ true → store_refusal t ≡ 0
unfolding store_refusal
passes t h e = simp (le-ltb (length t) store_words h, e)

module _ (s : List ℕ) (checks : store_refusal s ≡ 0) where
  sound-after : (c : Call ForeignAnnounceMessage) (t : List ℕ) → length t ≡ length s → book_of t ≡ after reads c (book_of s) → After s c t
  sound-after c t size book =
      let S = checked s checks in
      let kept : sound_words t ≡ true =
      sound_view t ∙ ap (sound_book reads) book ∙ after-sound lawful c (book_of s) (sym (sound_view s) ∙ S.sound) in
      record { size = size; book = book; sound = passes t (omega (arith, S.room)) kept }

  -- where the call is refused
  refused-after : (c : Call ForeignAnnounceMessage) (work : List ℕ) → (number c (turns reads c (book_of s)) ≡ 0 → ⊥) → After s c (exit_in s c work)
  refused-after c work ne =
      let same : exit_in s c work ≡ s = sym (refused-later s c work (number c (turns reads c (book_of s))) checks refl ne).1 in
      sound-after c (exit_in s c work) (ap length same) (ap book_of same ∙ sym (refused-same reads c (book_of s) ne))

  -- where it is done
  pub done-after : (c : Call ForeignAnnounceMessage) (work : List ℕ) → number c (turns reads c (book_of s)) ≡ 0 → length work ≡ length s
      → book_of work ≡ after reads c (book_of s) → After s c (exit_in s c work)
  done-after c work e size book = subst (After s c) (done-both s c work checks e).1 (sound-after c work size book)

  -- ageing
  pub aged : (step : ℕ) → After s (age step) (age_exit s step)
  unfolding number
  aged step =
      let S = checked s checks in
      ⊎_elim (λ l. refused-after (age step) (aged_store step s) (λ z. omega (arith, sym (ap (λ (b : Bool). cond b 0 13) (le-ltb step step_max l)) ∙ z)))
      (λ l. done-after (age step) (aged_store step s) (ap (λ (b : Bool). cond b 0 13) (lt-ltb step step_max l)) (aged-length step s S.room S.sound) (aged_view step s S.room S.sound l))
      (le-or-lt step_max step)

-- ---- register

-- a frame that was refused is not taken by any port
pub bad-number : (S : Site) (n k q : ℕ) (Ps : List (Port ForeignAnnounceMessage)) → answer_from k q (turns_from reads S k (register q (bad n)) Ps) ≡ 0 → n ≡ 0
bad-number S n k q [] e = absurd (omega (arith, e))
bad-number S n k q (P ∷ Ps) e =
    by
    (λ b. cond b (turn reads S k (cond b (hear (bad n)) idle) P).answer (answer_from (suc k) q (turns_from reads S (suc k) (register q (bad n)) Ps)) ≡ 0 → n ≡ 0)
    (eqb q k) (λ y a. a) (λ y a. bad-number S n (suc k) q Ps a) e

-- what an accepted frame holds is found in the book: on its port, as the last message of its sender
pub record Taken (s : List ℕ) (p : ℕ) (frame t : List ℕ) : Type 0 where
  pub message : Message
  pub was : read_frame frame ≡ Ok message
  pub found : FoundAt reads 1 p (held_of message.announce) (book_of s).ports (book_of t).ports

-- an answer that is done tells that nothing was refused
done-zero : (s : List ℕ) → store_refusal s ≡ 0 → (c : Call ForeignAnnounceMessage) (t : Tallies) → answer_in s c ≡ Ok t → number c (turns reads c (book_of s)) ≡ 0
unfolding answer_in answer_to
done-zero s checks c t e = by_number (number c (turns reads c (book_of s))) (sym (on-done (store_refusal s) _ refused checks) ∙ e)
  where
    by_number : (k : ℕ) → on_zero k (Ok (tallies_of (turns reads c (book_of s)))) refused ≡ Ok t → k ≡ 0
    by_number zero q = refl
    by_number (suc k) q = absurd (true≢false (sym (ap is_ok q)))

ports-length : (s : List ℕ) → length (book_of s).ports ≡ get_or s 0 0
unfolding book_of
ports-length s = length-tab (get_or s 0 0) (λ q. port_of (block s (port_at q) port_words))

module _ (s frame : List ℕ) (checks : store_refusal s ≡ 0) (bytes : Bytes frame) (p : ℕ) where
  taken-done : (m : Message) → read_frame frame ≡ Ok m → number (register_call p frame) (turns reads (register_call p frame) (book_of s)) ≡ 0
      → Taken s p frame (register_exit s p frame) × After s (register_call p frame) (register_exit s p frame)
  taken-done m was done =
      let held : ForeignAnnounceMessage = held_of m.announce in
      let S = checked s checks in
      let call-is : register_call p frame ≡ register p (announce held) = ap (λ (f : Result Message Refusal). register p (frame_of f)) was in
      let zero_is : number (register p (announce held)) (turns reads (register p (announce held)) (book_of s)) ≡ 0 =
      ap (λ (c : Call ForeignAnnounceMessage). number c (turns reads c (book_of s))) (sym call-is) ∙ done in
      let F = book-found reads p held (book_of s) zero_is in
      let q : ℕ = length F.before in
      let below : q < get_or s 0 0 = omega (arith, sym (ports-length s) ∙ ap length F.was, length-append F.before (F.here ∷ F.behind)) in
      let number-q : number (register (1 + q) (announce held)) (turns reads (register (1 + q) (announce held)) (book_of s)) ≡ 0 =
      ap (λ (k : ℕ). number (register k (announce held)) (turns reads (register k (announce held)) (book_of s))) (sym F.place) ∙ zero_is in
      let accepted : refusal_in s q held ≡ 0 =
      refusal_view s S.room S.sound q below held
      ∙ sym (register-answer reads (site_of s) (1 + q) held (port_of (block s (port_at q) port_words)))
      ∙ sym (number-here s q (announce held) below)
      ∙ number-q in
      let w = whole_frame frame m bytes was in
      let words_are : taken_in s p (frame_of (read_frame frame)) ≡ registered_in s q held =
      ap (λ (f : Result Message Refusal). taken_in s p (frame_of f)) was ∙ ap (λ (k : ℕ). registered_in s k held) (ap (λ (k : ℕ). k - 1) F.place ∙ one_less q) in
      let book-is : book_of (registered_in s q held) ≡ after reads (register_call p frame) (book_of s) =
      registered_in_view s S.room S.sound q below held w refl accepted
      ∙ ap (λ (c : Call ForeignAnnounceMessage). after reads c (book_of s)) (ap (λ (k : ℕ). register k (announce held)) (sym F.place) ∙ sym call-is) in
      let A = done-after s checks (register_call p frame) (taken_in s p (frame_of (read_frame frame))) done
      (ap length words_are ∙ length-registered_in s S.room S.sound q below held w refl accepted) (ap book_of words_are ∙ book-is) in
      let ports-are : (after reads (register p (announce held)) (book_of s)).ports ≡ (book_of (register_exit s p frame)).ports =
      ap (λ (B : Book ForeignAnnounceMessage). B.ports) (ap (λ (c : Call ForeignAnnounceMessage). after reads c (book_of s)) (sym call-is) ∙ sym A.book) in
      (record { message = m; was = was; found = subst (FoundAt reads 1 p held (book_of s).ports) ports-are F }, A)

  taken-any : (r : Result Message Refusal) → read_frame frame ≡ r → number (register_call p frame) (turns reads (register_call p frame) (book_of s)) ≡ 0
      → Taken s p frame (register_exit s p frame) × After s (register_call p frame) (register_exit s p frame)
  unfolding number turns
  taken-any (Ok m) was done = taken-done m was done
  taken-any (Err e) was done =
      absurd (omega (
        arith,
        number-positive e,
        bad-number (book_of s).site (number_of e) 1 p (book_of s).ports (sym (ap (λ (f : Result Message Refusal). answer_from 1 p (turns_from reads (book_of s).site 1 (register p (frame_of f)) (book_of s).ports)) was) ∙ done),
      ))

  -- registration
  pub registered : After s (register_call p frame) (register_exit s p frame)
  registered =
      by (λ b. eqb (number (register_call p frame) (turns reads (register_call p frame) (book_of s))) 0 ≡ b → After s (register_call p frame) (register_exit s p frame))
      (eqb (number (register_call p frame) (turns reads (register_call p frame) (book_of s))) 0)
      (λ y e. (taken-any (read_frame frame) refl (eqb-true (number (register_call p frame) (turns reads (register_call p frame) (book_of s))) 0 y)).1)
      (λ y e. refused-after s checks (register_call p frame) (taken_in s p (frame_of (read_frame frame)))
      (eqb-false (number (register_call p frame) (turns reads (register_call p frame) (book_of s))) 0 y))
      refl

  -- an accepted frame's message is found again, with the values of its frame
  pub accepted-found : (t : Tallies) → register_answer s p frame ≡ Ok t → Taken s p frame (register_exit s p frame)
  accepted-found t e = (taken-any (read_frame frame) refl (done-zero s checks (register_call p frame) t e)).0

-- ---- fresh start

module _ (s : List ℕ) (S : Site) (ns : List ℕ) where
  -- refused, it changes no word
  pub start-refused : (fresh_answer s S ns ≡ 0 → ⊥) → fresh_exit s S ns ≡ s
  unfolding fresh_exit
  start-refused ne = on-refused (fresh_answer s S ns) (begun S ns s) (λ _. s) ne

  -- taken, the store keeps its length and holds the fresh book, which is sound
  pub record Started : Type 0 where
    pub size : length (fresh_exit s S ns) ≡ length s
    pub book : book_of (fresh_exit s S ns) ≡ fresh_book S ns
    pub sound : store_refusal (fresh_exit s S ns) ≡ 0

  pub started : fresh_answer s S ns ≡ 0 → Started
  unfolding fresh_answer fresh_exit
  started e = go (ltb (length s) store_words) (startable S.listed ns) refl refl e
    where
      go : (a b : Bool) → ltb (length s) store_words ≡ a → startable S.listed ns ≡ b → ◌≡◌ {A = ℕ} (cond a 1 (cond b 0 14)) 0 → Started
      go true b p q z = absurd (omega (arith, z))
      go false false p q z = absurd (omega (arith, z))
      go false true p q z =
          let room : store_words ≤ length s = ltb-false (length s) store_words p in
          let begins : begun S ns s ≡ on_zero (cond (ltb (length s) store_words) 1 (cond (startable S.listed ns) 0 14)) (begun S ns s) (λ _. s) = rw (p, q) refl in
          record {
            size = ap length (sym begins) ∙ begun-length S ns s room;
            book = ap book_of (sym begins) ∙ begun_view S ns s room q;
            sound = ap store_refusal (sym begins) ∙ passes (begun S ns s) (omega (arith, begun-length S ns s room)) (begun-sound S ns s room q);
          }
