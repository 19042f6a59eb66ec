-- Each way through the calls, for the proofs of the code.
-- Assumes nothing.
use Rattle.std.specs.Prelude.{ℕ, zero, suc, ◌+◌, ◌-◌, ◌≤◌, ◌<◌, ◌≡◌, refl, Bool, true, false, List, [], ◌∷◌, length, get_or, Result, Ok, Err}
use Rattle.std.proofs.Common.{zero-le, ◌∙◌, subst, arith, lt-ltb, le-ltb}
use Rattle.std.proofs.Math.Path.{sym, ap}
use Rattle.std.proofs.Math.Bool.{cond}
use Rattle.std.proofs.Math.Arith.{lt_of_le-ne}
use Rattle.wire.specs.Be.{Bytes}
use Rattle.wire.specs.Refusal.{on_zero, on-done, on-refused}
use Rattle.header.specs.Wire.{header_at}
use Rattle.header.proofs.RoundTrip as header
use Rattle.announce.specs.Wire.{announce_of, announce_with}
use Rattle.announce.proofs.RoundTrip as announced
use Rattle.announce.specs.declared.AnnounceMessage.{AnnounceMessage}
use Rattle.frame.specs.declared.Message.{Message}
use Rattle.refused.specs.declared.Refusal.{Refusal}
use Rattle.refused.specs.Refusal.{number_of, refused}
use Rattle.refused.proofs.Laws.{number-positive, refused-number}
use Rattle.frame.specs.Frame.{message_at, read_frame}
use Rattle.frame_laws.proofs.Accepted.{accepted}
use Rattle.slot.specs.Blocks.{block}
use Rattle.slot.specs.Slot.{Whole}
use Rattle.slot.specs.declared.ForeignAnnounceMessage.{ForeignAnnounceMessage}
use Rattle.history.specs.Rules.{step_max}
use Rattle.history.specs.Port.{Site, Port, Turn, announce, age_port, hearing}
use Rattle.history.specs.Book.{Call, register, age, number, turns_from, turns, total}
use Rattle.history.specs.Sound.{startable}
use Rattle.history.proofs.Found.{register-answer}
use Rattle.book.specs.Layout.{store_words, port_words, port_at, site_of, port_of, book_of, reads}
use Rattle.book.specs.Rules.{store_refusal}
use Rattle.book.proofs.Rules.{checked}
use Rattle.refusal.specs.Refusal.{refusal_in}
use Rattle.admission.specs.Admit.{evicted_in, registered_in}
use Rattle.admission.proofs.StoreView.{number-here, number_6, refusal_view, evicted_in_view, others_view}
use Rattle.ageing.specs.Age.{aged_store, aged_out}
use Rattle.ageing.specs.StoreView.{gone_view}
use Rattle.fresh.specs.Fresh.{begun}
use Rattle.foreign_master.specs.declared.Tallies.{Tallies}
use Rattle.foreign_master.specs.Calls.{tallies_of, answer_to, answer_in, exit_in, held_of, frame_of, register_call, taken_in, register_answer, register_exit, age_answer, age_exit, fresh_answer, fresh_exit}
use Rattle.foreign_master.specs.Steps.{put_out, taking_answer, taking_exit, gone}

-- the number of a refusal is not that of done
some : (e : Refusal) → number_of e ≡ 0 → ⊥
some e z = omega (arith, number-positive e, z)

-- ---- what the first refusal that holds leaves: its number alone, and every word

module _ (s : List ℕ) (c : Call ForeignAnnounceMessage) (work : List ℕ) where
  pub refused-first : (e : Refusal) → number_of e ≡ store_refusal s → (Err e ≡ answer_in s c) × (s ≡ exit_in s c work)
  unfolding answer_in exit_in
  refused-first r e = (
    refused-number r ∙ ap refused e ∙ sym (on-refused (store_refusal s) (answer_to c (book_of s)) refused (λ z. some r (e ∙ z))),
    sym (on-refused (store_refusal s) (on_zero (number c (turns reads c (book_of s))) work (λ _. s)) (λ _. s) (λ z. some r (e ∙ z))),
  )

  pub refused-later : (n : ℕ) → store_refusal s ≡ 0 → number c (turns reads c (book_of s)) ≡ n → (n ≡ 0 → ⊥) → (refused n ≡ answer_in s c) × (s ≡ exit_in s c work)
  unfolding answer_in exit_in answer_to
  refused-later n p e ne =
      let k = number c (turns reads c (book_of s)) in (
        ap refused (sym e) ∙ sym (on-refused k (Ok (tallies_of (turns reads c (book_of s)))) refused (λ z. ne (sym e ∙ z))) ∙ sym (on-done (store_refusal s) (answer_to c (book_of s)) refused p),
        sym (on-refused k work (λ _. s) (λ z. ne (sym e ∙ z))) ∙ sym (on-done (store_refusal s) (on_zero k work (λ _. s)) (λ _. s) p),
      )

  pub done-both : store_refusal s ≡ 0 → number c (turns reads c (book_of s)) ≡ 0 → (Ok (tallies_of (turns reads c (book_of s))) ≡ answer_in s c) × (work ≡ exit_in s c work)
  unfolding answer_in exit_in answer_to
  done-both p e =
      let k = number c (turns reads c (book_of s)) in (
        sym (on-done k (Ok (tallies_of (turns reads c (book_of s)))) refused e) ∙ sym (on-done (store_refusal s) (answer_to c (book_of s)) refused p),
        sym (on-done k work (λ _. s) e) ∙ sym (on-done (store_refusal s) (on_zero k work (λ _. s)) (λ _. s) p),
      )

-- its two ways
pub taking-refused : (s : List ℕ) (q : ℕ) (a : AnnounceMessage) (n : ℕ) → n ≡ refusal_in s q (held_of a) → (n ≡ 0 → ⊥) → (refused n ≡ taking_answer s q a) × (s ≡ taking_exit s q a)
unfolding taking_answer taking_exit
taking-refused s q a n e ne = (
  ap refused e ∙ sym (on-refused (refusal_in s q (held_of a)) (Ok (put_out (evicted_in s q (held_of a)))) refused (λ z. ne (e ∙ z))),
  sym (on-refused (refusal_in s q (held_of a)) (registered_in s q (held_of a)) (λ _. s) (λ z. ne (e ∙ z))),
)

pub taking-turned : (s : List ℕ) (q : ℕ) (a : AnnounceMessage) (e : Refusal) → number_of e ≡ refusal_in s q (held_of a) → (Err e ≡ taking_answer s q a) × (s ≡ taking_exit s q a)
taking-turned s q a e h = let t = taking-refused s q a (number_of e) h (some e) in (refused-number e ∙ t.0, t.1)

pub taking-done : (s : List ℕ) (q : ℕ) (a : AnnounceMessage) → refusal_in s q (held_of a) ≡ 0
    → (Ok (put_out (evicted_in s q (held_of a))) ≡ taking_answer s q a) × (registered_in s q (held_of a) ≡ taking_exit s q a)
unfolding taking_answer taking_exit
taking-done s q a e = (
  sym (on-done (refusal_in s q (held_of a)) (Ok (put_out (evicted_in s q (held_of a)))) refused e),
  sym (on-done (refusal_in s q (held_of a)) (registered_in s q (held_of a)) (λ _. s) e),
)

-- what is read from bytes can be held
pub whole_frame : (frame : List ℕ) (m : Message) → Bytes frame → read_frame frame ≡ Ok m → Whole (held_of m.announce)
unfolding announce_of announce_with
whole_frame frame m b e =
    let same : m ≡ message_at frame = (accepted frame m b e).1 in
    subst (λ (x : Message). Whole (held_of x.announce)) (sym same)
    (record { header = header.whole-read frame b; content = announced.whole-read (header_at frame) frame 34 b })

pub tallies-eq : {a a' b b' c c' : ℕ} → a ≡ a' → b ≡ b' → c ≡ c'
    → ◌≡◌ {A = Tallies} (record { evicted = a; aged_out = b; consumed = c }) (record { evicted = a'; aged_out = b'; consumed = c' })
tallies-eq p q r = λ i. record { evicted = p i; aged_out = q i; consumed = r i }

-- the place of port 1 + q
pub one_less : (q : ℕ) → 1 + q - 1 ≡ q
one_less q = omega arith

module _ (s frame : List ℕ) (checks : store_refusal s ≡ 0) where
  -- no such port
  pub no-port : (p : ℕ) → ((j : ℕ) → j < get_or s 0 0 → p ≡ 1 + j → ⊥) → (refused 6 ≡ register_answer s p frame) × (s ≡ register_exit s p frame)
  no-port p o =
      refused-later s (register_call p frame) (taken_in s p (frame_of (read_frame frame))) 6 checks (number_6 s p (frame_of (read_frame frame)) o) (λ z. omega arith)

  module _ (q : ℕ) (below : q < get_or s 0 0) where
    -- the frame is refused
    pub frame_refused : (e : Refusal) → read_frame frame ≡ Err e → (Err e ≡ register_answer s (1 + q) frame) × (s ≡ register_exit s (1 + q) frame)
    frame_refused r e =
        let both = refused-later s (register_call (1 + q) frame) (taken_in s (1 + q) (frame_of (read_frame frame))) (number_of r) checks
        (number-here s q (frame_of (read_frame frame)) below ∙ ap (λ (f : Result Message Refusal). (hearing reads (site_of s) (1 + q) (frame_of f) (port_of (block s (port_at q) port_words))).answer) e)
        (some r) in
        (refused-number r ∙ both.0, both.1)

    -- the announce is taken in, or refused by the port
    module _ (m : Message) (bytes : Bytes frame) (was : read_frame frame ≡ Ok m) where
      abbrev held : ForeignAnnounceMessage
      held = held_of m.announce

      abbrev call : Call ForeignAnnounceMessage
      call = register_call (1 + q) frame

      call-is : call ≡ register (1 + q) (announce held)
      call-is = ap (λ (f : Result Message Refusal). register (1 + q) (frame_of f)) was

      number_is : number call (turns reads call (book_of s)) ≡ refusal_in s q held
      number_is =
          ap (λ (c : Call ForeignAnnounceMessage). number c (turns reads c (book_of s))) call-is
          ∙ number-here s q (announce held) below
          ∙ register-answer reads (site_of s) (1 + q) held (port_of (block s (port_at q) port_words))
          ∙ sym (refusal_view s (checked s checks).room (checked s checks).sound q below held)

      tallies-are : refusal_in s q held ≡ 0 → tallies_of (turns reads call (book_of s)) ≡ put_out (evicted_in s q held)
      tallies-are e =
          let S = checked s checks in
          let w = whole_frame frame m bytes was in
          ap (λ (c : Call ForeignAnnounceMessage). tallies_of (turns reads c (book_of s))) call-is
          ∙ tallies-eq (sym (evicted_in_view s S.room S.sound q below held w refl e))
          (others_view s S.room S.sound q below held w refl e (λ T. T.aged_out) refl (λ P. refl))
          (others_view s S.room S.sound q below held w refl e (λ T. T.consumed) refl (λ P. refl))

      words_are : taken_in s (1 + q) (frame_of (read_frame frame)) ≡ registered_in s q held
      words_are = ap (λ (f : Result Message Refusal). taken_in s (1 + q) (frame_of f)) was ∙ ap (λ (i : ℕ). registered_in s i held) (one_less q)

      pub frame_taken : (taking_answer s q m.announce ≡ register_answer s (1 + q) frame) × (taking_exit s q m.announce ≡ register_exit s (1 + q) frame)
      frame_taken = by (refusal_in s q held) refl
        where
          work : List ℕ
          work = taken_in s (1 + q) (frame_of (read_frame frame))

          by : (k : ℕ) → refusal_in s q held ≡ k → (taking_answer s q m.announce ≡ register_answer s (1 + q) frame) × (taking_exit s q m.announce ≡ register_exit s (1 + q) frame)
          by zero e =
              let t = taking-done s q m.announce e in
              let d = done-both s call work checks (number_is ∙ e) in
              (sym t.0 ∙ ap Ok (sym (tallies-are e)) ∙ d.0, sym t.1 ∙ sym words_are ∙ d.1)
          by (suc k) e =
              let t = taking-refused s q m.announce (suc k) (sym e) (λ z. omega arith) in
              let d = refused-later s call work (suc k) checks (number_is ∙ e) (λ z. omega arith) in
              (sym t.0 ∙ d.0, sym t.1 ∙ d.1)

-- the same, by the number of a port that there is
module _ (s frame : List ℕ) (checks : store_refusal s ≡ 0) (p : ℕ) (one : p ≡ 0 → ⊥) (there : p ≤ get_or s 0 0) where
  positive : 1 ≤ p
  positive = lt_of_le-ne zero-le (λ e. one (sym e))

  pub port-below : p - 1 < get_or s 0 0
  port-below = omega (arith, positive)

  back : 1 + (p - 1) ≡ p
  back = omega (arith, positive)

  pub port-refused : (e : Refusal) → read_frame frame ≡ Err e → (Err e ≡ register_answer s p frame) × (s ≡ register_exit s p frame)
  port-refused r e =
      subst (λ (k : ℕ). (Err r ≡ register_answer s k frame) × (s ≡ register_exit s k frame)) back (frame_refused s frame checks (p - 1) port-below r e)

  pub port-taken : (m : Message) → Bytes frame → read_frame frame ≡ Ok m
      → (taking_answer s (p - 1) m.announce ≡ register_answer s p frame) × (taking_exit s (p - 1) m.announce ≡ register_exit s p frame)
  port-taken m bytes was =
      subst (λ (k : ℕ). (taking_answer s (p - 1) m.announce ≡ register_answer s k frame) × (taking_exit s (p - 1) m.announce ≡ register_exit s k frame)) back
      (frame_taken s frame checks (p - 1) port-below m bytes was)

-- it puts out nothing and consumes nothing
age-none : (step : ℕ) (f : Turn ForeignAnnounceMessage → List ForeignAnnounceMessage) → ((P : Port ForeignAnnounceMessage) → f (age_port reads step P) ≡ []) → step < step_max
    → (S : Site) (k : ℕ) (Ps : List (Port ForeignAnnounceMessage)) → total f (turns_from reads S k (age step) Ps) ≡ 0
age-none step f e h S k [] = refl
age-none step f e h S k (P ∷ Ps) = simp (lt-ltb step step_max h, e P, age-none step f e h S (suc k) Ps)

module _ (s : List ℕ) (checks : store_refusal s ≡ 0) (step : ℕ) where
  pub step-refused : step_max ≤ step → (refused 13 ≡ age_answer s step) × (s ≡ age_exit s step)
  unfolding number
  step-refused h =
      refused-later s (age step) (aged_store step s) 13 checks (ap (λ (b : Bool). cond b 0 13) (le-ltb step step_max h)) (λ z. omega arith)

  pub step-taken : step < step_max → (Ok (gone (aged_out step s)) ≡ age_answer s step) × (aged_store step s ≡ age_exit s step)
  unfolding number turns age_port
  step-taken h =
      let S = checked s checks in
      let d = done-both s (age step) (aged_store step s) checks (ap (λ (b : Bool). cond b 0 13) (lt-ltb step step_max h)) in
      let tallies : tallies_of (turns reads (age step) (book_of s)) ≡ gone (aged_out step s) =
      tallies-eq (age-none step (λ T. T.evicted) (λ P. refl) h (book_of s).site 1 (book_of s).ports)
      (sym (gone_view step s S.room S.sound h))
      (age-none step (λ T. T.consumed) (λ P. refl) h (book_of s).site 1 (book_of s).ports) in
      (ap Ok (sym tallies) ∙ d.0, d.1)

-- ---- fresh start

module _ (s : List ℕ) (S : Site) (ns : List ℕ) where
  pub short-refused : length s < store_words → (1 ≡ fresh_answer s S ns) × (s ≡ fresh_exit s S ns)
  unfolding fresh_answer fresh_exit
  short-refused h = (simp (lt-ltb (length s) store_words h), simp (lt-ltb (length s) store_words h))

  pub settings_refused : store_words ≤ length s → startable S.listed ns ≡ false → (14 ≡ fresh_answer s S ns) × (s ≡ fresh_exit s S ns)
  unfolding fresh_answer fresh_exit
  settings_refused h e = (simp (le-ltb (length s) store_words h, e), simp (le-ltb (length s) store_words h, e))

  pub begins : store_words ≤ length s → startable S.listed ns ≡ true → (0 ≡ fresh_answer s S ns) × (begun S ns s ≡ fresh_exit s S ns)
  unfolding fresh_answer fresh_exit
  begins h e = (simp (le-ltb (length s) store_words h, e), simp (le-ltb (length s) store_words h, e))
