-- The lines of a log, answered over a store by the calls, are answered as over the book: at every line of every log.
-- Assumes nothing.
use Rattle.std.specs.Prelude.{ℕ, ◌≤◌, ◌≡◌, refl, Bool, true, false, cond, List, [], ◌∷◌, ◌++◌, map, length, get_or}
use Rattle.std.proofs.Common.{sym, ap, ◌∙◌, subst}
use Rattle.std.proofs.Math.Option.{Option, some}
use Rattle.wire.specs.Be.{be_at}
use Rattle.wire.specs.Refusal.{on_zero}
use Rattle.states.specs.declared.PortAnswer.{PortAnswer}
use Rattle.slot.specs.declared.ForeignAnnounceMessage.{ForeignAnnounceMessage}
use Rattle.history.specs.Book.{Book, fresh_book}
use Rattle.history.specs.Sound.{startable}
use Rattle.histories.specs.History.{Event, step}
use Rattle.book.specs.Layout.{store_words, book_of, reads}
use Rattle.book.specs.Rules.{store_refusal}
use Rattle.fresh.specs.Fresh.{site_with}
use Rattle.foreign_master.proofs.Steps as steps
use Rattle.foreign_master.proofs.Laws.{started}
use Rattle.stored.specs.Calls.{StoreCall, fresh_start, register_frame, step_age, decide, Wired, number_of, answers_to, event_at}
use Rattle.stored.proofs.Views.{number_at, states_at, call_view, call-answer}
use Rattle.log_answer.specs.declared.Setup.{Setup}
use Rattle.log_answer.specs.Answer.{Asked, state_byte, told_of, text_of, setup_of, store_of}
use Rattle.log_setup.specs.Start.{intervals_at, start_at, setup_at}
use Rattle.log_asked.specs.Line.{asked}
use Rattle.log_asked.proofs.AskedKinds.{Kind, nothing, starting, calling, kinds}
use Rattle.logs.specs.Log.{event_on, told_on, setup_on, book_on, answers_of}

-- the lines, answered over a store
abbrev pub store_answers : Setup → List ℕ → List (List ℕ) → List ℕ
store_answers setup s [] = []
store_answers setup s (l ∷ ls) = text_of (told_of (asked setup l) s) ++ store_answers (setup_of (asked setup l) setup s) (store_of (asked setup l) s) ls

-- ---- one line

-- a store and a book that fit: before a first good setup there is room for a book; then the store holds the book, and it is sound
pub data Fits (setup : Setup) (s : List ℕ) (B : Book ForeignAnnounceMessage) : Type 0 where
  before : setup.ports ≡ 0 → store_words ≤ length s → Fits setup s B
  ready : book_of s ≡ B → store_refusal s ≡ 0 → Fits setup s B

-- the line is answered alike, and what is left fits again
record Same (a : Option Asked) (setup : Setup) (s : List ℕ) (B : Book ForeignAnnounceMessage) : Type 0 where
  told : told_of a s ≡ told_on a B
  settled : setup_of a setup s ≡ setup_on a setup B
  fits : Fits (setup_of a setup s) (store_of a s) (book_on a B)

same-call : (s : List ℕ) (c : StoreCall) → event_at s c ≡ event_on (book_of s) c
same-call s (fresh_start own any listed intervals) = refl
same-call s (register_frame port frame) = refl
same-call s (step_age step) = refl
same-call s (decide p₁ quality p₂ listening) = refl

-- a call on a sound store
ready-same : (setup : Setup) (s : List ℕ) → store_refusal s ≡ 0 → (a : Asked) → Wired a.call → Same (some a) setup s (book_of s)
ready-same setup s checks a w =
    let B = book_of s in
    let c = a.call in
    let A = call-answer s checks c in
    let seen = call_view s checks c w in
    let n : number_of c s ≡ number_at (event_on B c) B = A.number ∙ ap (λ (e : Event ForeignAnnounceMessage). number_at e B) (same-call s c) in
    let t : answers_to c s ≡ states_at (event_on B c) B = A.states ∙ ap (λ (e : Event ForeignAnnounceMessage). states_at e B) (same-call s c) in
    record {
      told = ap (λ (k : ℕ). k ∷ map state_byte (answers_to c s)) n ∙ ap (λ (xs : List PortAnswer). number_at (event_on B c) B ∷ map state_byte xs) t;
      settled = ap (λ (k : ℕ). on_zero k a.setup (λ _. setup)) n;
      fits = ready (seen.book ∙ ap (λ (e : Event ForeignAnnounceMessage). step reads e B) (same-call s c)) seen.sound;
    }

-- the first setup line that is good, or one that is not
module _ (setup : Setup) (s : List ℕ) (B : Book ForeignAnnounceMessage) (none_yet : setup.ports ≡ 0) (room : store_words ≤ length s) (own : ℕ) (ns : List ℕ) (new : Setup) where
  abbrev first : Asked
  first = record { call = fresh_start own true [] ns; setup = new }

  first-same : (b : Bool) → startable [] ns ≡ b → Same (some first) setup s B
  first-same true y =
      let zero_is = sym (steps.begins s (site_with own true []) ns room y).0 in
      let zero-on : number_at (event_on B first.call) B ≡ 0 = ap (λ (b : Bool). cond b 0 14) y in
      let S = started s (site_with own true []) ns zero_is in
      record {
        told = ap (λ (k : ℕ). k ∷ []) (zero_is ∙ sym zero-on);
        settled = ap (λ (k : ℕ). on_zero k new (λ _. setup)) (zero_is ∙ sym zero-on);
        fits = ready (S.book ∙ sym (ap (λ (b : Bool). cond b (fresh_book (site_with own true []) ns) B) y)) S.sound;
      }
  first-same false y =
      let r = steps.settings_refused s (site_with own true []) ns room y in
      let same_number : number_of first.call s ≡ number_at (event_on B first.call) B = sym r.0 ∙ sym (ap (λ (b : Bool). cond b 0 14) y) in
      let old : setup ≡ setup_of (some first) setup s = ap (λ (k : ℕ). on_zero k new (λ _. setup)) r.0 in
      record {
        told = ap (λ (k : ℕ). k ∷ []) same_number;
        settled = ap (λ (k : ℕ). on_zero k new (λ _. setup)) same_number;
        fits = before (sym (ap (λ (x : Setup). x.ports) old) ∙ none_yet) (subst (λ (t : List ℕ). store_words ≤ length t) r.1 room);
      }

one_line : (setup : Setup) (s : List ℕ) (B : Book ForeignAnnounceMessage) → Fits setup s B → (a : Option Asked) → Kind setup a → Same a setup s B
one_line setup s B f a (nothing e) = subst (λ (x : Option Asked). Same x setup s B) e (record { told = refl; settled = refl; fits = f })
one_line setup s B (ready b checks) a (starting line e) =
    subst (λ (x : Option Asked). Same x setup s B) e (subst (Same (some (record { call = start_at line; setup = setup_at line })) setup s) b (ready-same setup s checks (record { call = start_at line; setup = setup_at line }) tt))
one_line setup s B (ready b checks) a (calling c w r e) =
    subst (λ (x : Option Asked). Same x setup s B) e (subst (Same (some (record { call = c; setup = setup })) setup s) b (ready-same setup s checks (record { call = c; setup = setup }) w))
one_line setup s B (before z room) a (starting line e) =
    subst (λ (x : Option Asked). Same x setup s B) e
    (first-same setup s B z room (be_at line 2 8) (intervals_at line (get_or line 1 0)) (setup_at line) (startable [] (intervals_at line (get_or line 1 0))) refl)
one_line setup s B (before z room) a (calling c w r e) = absurd (r z)

-- ---- any log

pub log_view : (setup : Setup) (s : List ℕ) (B : Book ForeignAnnounceMessage) → Fits setup s B → (ls : List (List ℕ)) → store_answers setup s ls ≡ answers_of setup B ls
log_view setup s B f [] = refl
log_view setup s B f (l ∷ ls) =
    let a = asked setup l in
    let S = one_line setup s B f a (kinds setup l) in
    ap (λ (t : List ℕ). text_of t ++ store_answers (setup_of a setup s) (store_of a s) ls) S.told
    ∙ ap (λ (r : List ℕ). text_of (told_on a B) ++ r) (log_view (setup_of a setup s) (store_of a s) (book_on a B) S.fits ls ∙ ap (λ (x : Setup). answers_of x (book_on a B) ls) S.settled)
