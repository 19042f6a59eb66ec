-- Every answer of a call has its number in the paper's table, so the answer gives the number back.
-- Assumes nothing.
use Rattle.std.specs.Prelude.{ℕ, zero, suc, ◌≤◌, ◌≡◌, Bool, true, false, cond, List, [], ◌∷◌, eqb, Result, Ok, Err, length, ltb}
use Rattle.std.proofs.Common.{ap, arith}
use Rattle.std.proofs.Math.Option.{Option, none, some}
use Rattle.wire.specs.Refusal.{on_zero}
use Rattle.refused.specs.declared.Refusal.{Refusal}
use Rattle.refused.specs.Refusal.{refused, answer_of}
use Rattle.refused.proofs.Laws.{number-le, number-of, answer-number}
use Rattle.frame.specs.declared.Message.{Message}
use Rattle.frame.specs.Frame.{read_frame}
use Rattle.slot.specs.declared.ForeignAnnounceMessage.{ForeignAnnounceMessage}
use Rattle.history.specs.Rules.{step_max}
use Rattle.history.specs.Port.{Site, Port, refusal, taking, unchanged, register_port, hearing, turn, hear, idle}
use Rattle.history.specs.Book.{Call, register, age, answer_from, number, turns_from, turns}
use Rattle.history.proofs.Tests.{by}
use Rattle.book.specs.Layout.{store_words, book_of, reads}
use Rattle.book.specs.Rules.{sound_words, store_refusal}
use Rattle.foreign_master.specs.declared.Tallies.{Tallies}
use Rattle.foreign_master.specs.Calls.{tallies_of, answer_to, answer_in, frame_of, register_call}

-- of two numbers of the table either
either : (b : Bool) (m n : ℕ) → m ≤ 17 → n ≤ 17 → cond b m n ≤ 17
either true m n h k = h
either false m n h k = k

-- the check of a store answers 0, 1 or 16
pub store-le : (s : List ℕ) → store_refusal s ≤ 17
unfolding store_refusal
store-le s = either (ltb (length s) store_words) 1 _ (omega arith) (either (sound_words s) 0 16 (omega arith) (omega arith))

-- ---- a registration

module _ (S : Site) where
  -- a port answers 0, or 7 to 12
  refusal-le : (k : ℕ) (m : ForeignAnnounceMessage) (P : Port ForeignAnnounceMessage) → refusal reads S k m P ≤ 17
  unfolding refusal
  refusal-le k m P =
      either _ 7 _ (omega arith) (either _ 8 _ (omega arith) (either _ 9 _ (omega arith) (either _ 10 _ (omega arith) (either _ 11 _ (omega arith) (either _ 12 0 (omega arith) (omega arith))))))

  port-le : (k : ℕ) (m : ForeignAnnounceMessage) (P : Port ForeignAnnounceMessage) → (register_port reads S k m P).answer ≤ 17
  unfolding register_port
  port-le k m P = pick (eqb (refusal reads S k m P) 0)
    where
      pick : (b : Bool) → (cond b (taking reads m P) (unchanged (refusal reads S k m P) P)).answer ≤ 17
      pick true = omega arith
      pick false = refusal-le k m P

  -- or the number of the frame's refusal
  heard-le : (k : ℕ) (f : Result Message Refusal) (P : Port ForeignAnnounceMessage) → (hearing reads S k (frame_of f) P).answer ≤ 17
  heard-le k (Ok m) P = port-le k _ P
  heard-le k (Err e) P = number-le e

  -- or 6, where there is no such port
  answer-le : (q : ℕ) (f : Result Message Refusal) (k : ℕ) (Ps : List (Port ForeignAnnounceMessage))
      → answer_from k q (turns_from reads S k (register q (frame_of f)) Ps) ≤ 17
  answer-le q f k [] = omega arith
  answer-le q f k (P ∷ Ps) =
      by
      (λ b. cond b (turn reads S k (cond b (hear (frame_of f)) idle) P).answer (answer_from (suc k) q (turns_from reads S (suc k) (register q (frame_of f)) Ps)) ≤ 17)
      (eqb q k) (λ y. heard-le k f P) (λ y. answer-le q f (suc k) Ps)

pub register-le : (s : List ℕ) (p : ℕ) (frame : List ℕ) → number (register_call p frame) (turns reads (register_call p frame) (book_of s)) ≤ 17
unfolding number turns
register-le s p frame = answer-le (book_of s).site p (read_frame frame) 1 (book_of s).ports

-- ---- age

pub age-le : (s : List ℕ) (step : ℕ) → number (age step) (turns reads (age step) (book_of s)) ≤ 17
unfolding number
age-le s step = either (ltb step step_max) 0 13 (omega arith) (omega arith)

-- ---- in the paper's numbers

-- an answer over a store: the number of the first refusal and none, or 0 and the tallies
pub answer-numbers : (s : List ℕ) (c : Call ForeignAnnounceMessage) → number c (turns reads c (book_of s)) ≤ 17
    → answer_of (answer_in s c)
    ≡ on_zero (store_refusal s) (on_zero (number c (turns reads c (book_of s))) (0, some (tallies_of (turns reads c (book_of s)))) (λ k. (k, none))) (λ k. (k, none))
unfolding answer_in answer_to
answer-numbers s c h = go (store_refusal s) (store-le s)
  where
    go : (k : ℕ) → k ≤ 17
        → answer_of (on_zero k (on_zero (number c (turns reads c (book_of s))) (Ok (tallies_of (turns reads c (book_of s)))) refused) refused)
        ≡ on_zero k (on_zero (number c (turns reads c (book_of s))) (0, some (tallies_of (turns reads c (book_of s)))) (λ k. (k, none))) (λ k. (k, none))
    go zero l = answer-number (number c (turns reads c (book_of s))) (tallies_of (turns reads c (book_of s))) h
    go (suc k) l = let o : Option Tallies = none in ap (λ (n : ℕ). (n, o)) (number-of k (omega (arith, l)))
