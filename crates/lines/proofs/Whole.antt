-- However the input is cut into pieces, the calls tell the lines of the whole input. Assumes nothing.
use Rattle.std.specs.Prelude.{ℕ, ◌≤◌, ◌<◌, ◌≡◌, Bool, true, false, cond, take, eqb, ltb, leb}
use Rattle.std.proofs.Common.{zero-le, ◌∙◌, arith, add-one, not-suc-le-zero, length-append, length-set, take-suc-set}
use Rattle.std.proofs.Math.Path.{refl, ap}
use mathlib.Core.List.{List, [], ◌∷◌, ◌++◌, map}
use Rattle.std.proofs.Math.ListN.{length}
use Rattle.std.proofs.Math.Seq.{length-take-le}
use borrow.Author.Tests.{eq-eqb, ne_eqb, le-leb, lt-leb, ltb-true, ltb-false}
use Rattle.feed.specs.Feed.{final, outs, joined, Calls}
use Rattle.feed.specs.FeedLaws.{outs-fed, final-fed}
use Rattle.lines.specs.Lines.{cons_first, lines_of, Told, line, too_long, told, Open, opened, keep, move, out, told_open, rest, last_of}
use Rattle.lines.proofs.Turns.{told-short, told-long}
use Rattle.lines.specs.declared.Last.{Last}
use Rattle.lines.specs.declared.Last.TheVariants as L

-- bytes in front of the first line
abbrev prepend : List ℕ → List (List ℕ) → List (List ℕ)
prepend [] ls = ls
prepend (b ∷ bs) ls = cons_first b (prepend bs ls)

prepend_snoc : (k : List ℕ) (b : ℕ) (ls : List (List ℕ)) → prepend (k ++ (b ∷ [])) ls ≡ prepend k (cons_first b ls)
prepend_snoc [] b ls = refl
prepend_snoc (x ∷ k) b ls = ap (cons_first x) (prepend_snoc k b ls)

prepend-ended : (k : List ℕ) (ls : List (List ℕ)) → prepend k ([] ∷ ls) ≡ k ∷ ls
prepend-ended [] ls = refl
prepend-ended (x ∷ k) ls = rw (prepend-ended k ls) refl

prepend-last : (x : ℕ) (k : List ℕ) → prepend (x ∷ k) [] ≡ (x ∷ k) ∷ []
prepend-last x [] = refl
prepend-last x (y ∷ k) = rw (prepend-last y k) refl

-- the state stands for the bytes k of an unfinished line
data Holds (limit : ℕ) (s : Open) (k : List ℕ) : Type 0 where
  short : length s.kept ≡ limit → s.count ≤ limit → k ≡ take s.count s.kept → Holds limit s k
  long : length s.kept ≡ limit → limit < s.count → limit < length k → Holds limit s k

module _ {limit : ℕ} {s : Open} where
  holds-told : {k : List ℕ} → Holds limit s k → told_open s ≡ told limit k
  unfolding told
  holds-told {k} (short e l h) = told-short _ _ (omega arith) ∙ rw (h, le-leb (length (take s.count s.kept)) limit (omega (arith, length-take-le s.count s.kept (omega arith)))) refl
  holds-told {k} (long e l h) = told-long _ _ (omega arith) ∙ rw (lt-leb (length k) limit h) refl

  -- the end of the input
  begun : {x : ℕ} {k : List ℕ} → Holds limit s (x ∷ k) → s.count ≡ 0 → ⊥
  begun (short e l h) z = omega (arith, length-take-le s.count s.kept (omega arith), ap length h)
  begun (long e l h) z = omega arith

  at-end : (k : List ℕ) → Holds limit s k → rest s ≡ map (told limit) (prepend k [])
  unfolding rest
  at-end [] (short e l h) = rw (eq-eqb s.count 0 (omega (arith, length-take-le s.count s.kept (omega arith), ap length h))) refl
  at-end [] (long e l h) = absurd (not-suc-le-zero h)
  at-end (x ∷ k) h = rw (ne_eqb s.count 0 (begun h), holds-told h, prepend-last x k) refl

  -- an ended line leaves nothing
  fresh : {k : List ℕ} → Holds limit s k → Holds limit (opened s.kept 0) []
  fresh (short e l h) = short e zero-le refl
  fresh (long e l h) = short e zero-le refl

  -- a byte more
  one_more : {k : List ℕ} (b : ℕ) (t : Bool) → ltb s.count (length s.kept) ≡ t → Holds limit s k
      → Holds limit (keep t s.kept s.count b) (k ++ (b ∷ []))
  one_more {k} b true q (short e l h) =
      let r : s.count < length s.kept = ltb-true _ _ q in
      short (length-set s.kept s.count b ∙ e) (omega arith) (rw (h, add-one, take-suc-set s.kept s.count b r) refl)
  one_more {k} b false q (short e l h) =
      let r : length s.kept ≤ s.count = ltb-false _ _ q in
      long e (omega arith) (omega (arith, length-append k (b ∷ []), length-take-le s.count s.kept (omega arith), ap length h))
  one_more {k} b true q (long e l h) =
      let r : s.count < length s.kept = ltb-true _ _ q in
      long (length-set s.kept s.count b ∙ e) (omega arith) (omega (arith, length-append k (b ∷ [])))
  one_more {k} b false q (long e l h) = long e (omega arith) (omega (arith, length-append k (b ∷ [])))

-- what is told of the bytes to come, by what is kept
abbrev Tells : ℕ → List ℕ → Type 0
Tells limit bs = (s : Open) (k : List ℕ) → Holds limit s k → outs move out s bs ++ rest (final move s bs) ≡ map (told limit) (prepend k (lines_of bs))

tells_more : (limit b : ℕ) (bs : List ℕ) → Tells limit bs → Tells limit (b ∷ bs)
unfolding lines_of move out
tells_more limit b bs ih s k h = by_byte (eqb b 10) refl
  where
    by_byte : (t : Bool) → eqb b 10 ≡ t → outs move out s (b ∷ bs) ++ rest (final move s (b ∷ bs)) ≡ map (told limit) (prepend k (lines_of (b ∷ bs)))
    by_byte true q = rw (q, prepend-ended k (lines_of bs), holds-told h) (ap (◌∷◌ (told limit k)) (ih (opened s.kept 0) [] (fresh h)))
    by_byte false q = rw (q, ← prepend_snoc k b (lines_of bs)) (ih _ _ (one_more b (ltb s.count (length s.kept)) refl h))

tells : (limit : ℕ) (bs : List ℕ) → Tells limit bs
unfolding lines_of
tells limit [] s k h = at-end k h
tells limit (b ∷ bs) s k h = tells_more limit b bs (tells limit bs) s k h

-- THE THEOREM: from an empty start, whatever the pieces, the calls and then the end of the input tell the lines of the whole
pub lines-fed : (buffer piece : List ℕ) (pieces : List (List ℕ)) (os : List Told) (u : Open)
    → Calls move out (opened buffer 0) piece 0 pieces os u → os ++ rest u ≡ map (told (length buffer)) (lines_of (piece ++ joined pieces))
lines-fed buffer piece pieces os u c =
    rw (← outs-fed move out c, ← final-fed move out c) (tells (length buffer) (piece ++ joined pieces) (opened buffer 0) [] (short refl zero-le refl))

-- the end of the input as the code answers it
abbrev pub last_told : List ℕ → Last → List Told
last_told buffer L.Nothing = []
last_told buffer (L.Line n) = line (take n buffer) ∷ []
last_told buffer L.TooLong = too_long ∷ []

pub rest-last : (s : Open) → rest s ≡ last_told s.kept (last_of (length s.kept) s.count)
unfolding rest told_open
rest-last s = by_tests (eqb s.count 0) (leb s.count (length s.kept))
  where
    by_tests : (a b : Bool) → cond a [] (cond b (line (take s.count s.kept)) too_long ∷ []) ≡ last_told s.kept (cond a L.Nothing (cond b (L.Line s.count) L.TooLong))
    by_tests true b = refl
    by_tests false true = refl
    by_tests false false = refl
