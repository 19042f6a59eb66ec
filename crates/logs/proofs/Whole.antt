-- The log program over a store, whatever pieces its input arrives in, answers the whole input as paper 01 says.
-- Assumes nothing.
use Rattle.std.specs.Prelude.{ℕ, ◌%◌, ◌≤◌, ◌≡◌, refl, Bool, true, false, cond, ◌&&◌, List, [], ◌∷◌, ◌++◌, map, eqb, leb, length, take}
use Rattle.std.proofs.Common.{sym, ap, ◌∙◌, arith, le-ltb, take_at}
use Rattle.std.proofs.Math.Option.{Option, none}
use Rattle.std.proofs.lemmas.List.Edits.{sets, sets-eq}
use Rattle.book.specs.Layout.{store_words}
use Rattle.feed.specs.Feed.{joined, Calls}
use Rattle.lines.specs.Lines.{lines_of, Told, line, too_long, told, Open, opened, move, out, rest}
use Rattle.lines.proofs.Whole.{lines-fed}
use Rattle.hex_line.specs.Hex.{pairs_of, missed}
use Rattle.log_answer.specs.declared.Setup.{Setup}
use Rattle.log_answer.specs.declared.Answered.{Answered}
use Rattle.log_answer.specs.Answer.{Asked, no_setup, told_of, text_of, setup_of, store_of, out_of, answered_of, answer_bytes}
use Rattle.log_asked.specs.Line.{asked_of, asked, line_answered, line_store, line_out, none_answered, none_out}
use Rattle.log_answer.specs.Steps.{length-text}
use Rattle.log_step.specs.Piece.{told_answered, told_store, told_out}
use Rattle.log_step.proofs.Steps.{told-fits}
use Rattle.logs.specs.Log.{no_book, log_of}
use Rattle.logs.proofs.View.{store_answers, before, log_view}

-- what a line that was cut out asks: one that is too long has the wrong shape
abbrev pub asked_told : Setup → Told → Option Asked
asked_told setup (line l) = asked setup l
asked_told setup too_long = none

-- the lines that were cut out, answered over a store
abbrev pub told_answers : Setup → List ℕ → List Told → List ℕ
told_answers setup s [] = []
told_answers setup s (t ∷ ts) = text_of (told_of (asked_told setup t) s) ++ told_answers (setup_of (asked_told setup t) setup s) (store_of (asked_told setup t) s) ts

-- a line that is too long for the buffer of 4,096 bytes has too many digits
told-asked : (setup : Setup) (l : List ℕ) → asked_told setup (told 4096 l) ≡ asked setup l
unfolding told asked
told-asked setup l = by (leb (length l) 4096) refl
  where
    by : (b : Bool) → leb (length l) 4096 ≡ b → asked_told setup (cond b (line l) too_long) ≡ asked setup l
    by true e = refl
    by false e = sym (ap (λ (b : Bool). cond (b && (eqb (length l % 2) 0 && eqb (missed l) 0)) (asked_of setup (pairs_of l)) none) e)

told-all : (ls : List (List ℕ)) (setup : Setup) (s : List ℕ) → told_answers setup s (map (told 4096) ls) ≡ store_answers setup s ls
told-all [] setup s = refl
told-all (l ∷ ls) setup s =
    ap (λ (a : Option Asked). text_of (told_of a s) ++ told_answers (setup_of a setup s) (store_of a s) (map (told 4096) ls)) (told-asked setup l)
    ∙ ap (λ (r : List ℕ). text_of (told_of (asked setup l) s) ++ r) (told-all ls (setup_of (asked setup l) setup s) (store_of (asked setup l) s))

-- THE THEOREM: from an empty start, with room for a book and a buffer for 4,096 digits, whatever the pieces, the lines that the calls cut
-- out and the line at the end, answered one after the other, give the bytes of the log program's output.
pub log_fed : (s buffer piece : List ℕ) (pieces : List (List ℕ)) (ts : List Told) (u : Open) → store_words ≤ length s → length buffer ≡ 4096
    → Calls move out (opened buffer 0) piece 0 pieces ts u → told_answers no_setup s (ts ++ rest u) ≡ log_of (piece ++ joined pieces)
unfolding log_of
log_fed s buffer piece pieces ts u room size c =
    let input = piece ++ joined pieces in
    ap (told_answers no_setup s) (lines-fed buffer piece pieces ts u c ∙ ap (λ (n : ℕ). map (told n) (lines_of input)) size)
    ∙ told-all (lines_of input) no_setup s
    ∙ log_view no_setup s no_book (before refl room) (lines_of input)

-- ---- what a call leaves: the answer's line stands in front of the room for it and is as long as the call says, and what is set up and
-- stored goes on to the next

front : (room bytes : List ℕ) → length bytes ≤ length room → take (length bytes) (sets room 0 bytes) ≡ bytes
front room bytes h = ap (take (length bytes)) (sets-eq bytes room 0 (omega (arith, h))) ∙ take_at bytes _ (length bytes) refl

pub record Written (t : Told) (setup : Setup) (s room : List ℕ) : Type 0 where
  pub text : take (told_answered t setup s room).count (told_out t setup s room) ≡ text_of (told_of (asked_told setup t) s)
  pub settled : (told_answered t setup s room).setup ≡ setup_of (asked_told setup t) setup s
  pub words : told_store t setup s room ≡ store_of (asked_told setup t) s

pub answer-text : (t : Told) (setup : Setup) (s room : List ℕ) → answer_bytes ≤ length room → Written t setup s room
unfolding line_answered line_store line_out none_answered none_out answered_of out_of
answer-text (line l) setup s room h =
    let a = asked setup l in
    let enough = le-ltb (length room) answer_bytes h in
    record {
      text =
          ap (λ (b : Bool). take (cond {A = Answered} b (record { setup = setup; count = 0 }) (answered_of a setup s)).count (cond b room (out_of a s room))) enough
          ∙ front room (text_of (told_of a s)) (omega (arith, told-fits a s));
      settled = ap (λ (b : Bool). (cond {A = Answered} b (record { setup = setup; count = 0 }) (answered_of a setup s)).setup) enough;
      words = ap (λ (b : Bool). cond b s (store_of a s)) enough;
    }
answer-text too_long setup s room h =
    let enough = le-ltb (length room) answer_bytes h in
    record {
      text =
          ap (λ (b : Bool). take (cond {A = Answered} b (record { setup = setup; count = 0 }) (record { setup = setup; count = 3 })).count (cond b room (sets room 0 (text_of (17 ∷ []))))) enough
          ∙ ap (λ (n : ℕ). take n (sets room 0 (text_of (17 ∷ [])))) (sym (length-text (17 ∷ [])))
          ∙ front room (text_of (17 ∷ [])) (omega (arith, told-fits none s));
      settled = ap (λ (b : Bool). (cond {A = Answered} b (record { setup = setup; count = 0 }) (record { setup = setup; count = 3 })).setup) enough;
      words = refl;
    }
