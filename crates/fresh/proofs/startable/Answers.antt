-- `fresh::startable` meets its contract. Assumes nothing.
use native.Mathlib.Omega.{arith}
use borrow.Author.Rules.{rules}
use borrow.Author.Tests.{tests, lt-leb, le-leb}
use Prim.Native.Nat.{ℕ, zero, suc}
use mathlib.Core.Path.{◌≡◌, refl, sym, ap, ◌∙◌}
use mathlib.Core.Bool.{Bool, not}
use lib.Dec.{leb, eqb, eqb-suc-zero}
use lib.ListN.{length}
use Rattle.std.proofs.lemmas.Iterator.{YieldsList-from_slice}
use Rattle.std.proofs.lemmas.Iterator.Search.{all_from_yields_List}
use Rattle.history.specs.Rules.{interval_right}
use Rattle.history.specs.Sound.{startable}
use Rattle.fresh.specs.Words.{every-all}
use Rattle.fresh.proofs.startable.Goals.{then-is_empty-via-then-is_empty, then-is_empty-via-else-is_empty+then-intervals-gt-PORTS, then-is_empty-via-else-is_empty+else-intervals-gt-PORTS+then-listed-gt-LISTED}
use Rattle.fresh.proofs.startable.Goals as goal

-- a list with a word is not empty
some : (n : ℕ) → leb 1 n ≡ not (eqb n 0)
some zero = refl
some (suc n) = le-leb 1 (suc n) (omega arith) ∙ sym (ap not (eqb-suc-zero n))

some-in : (n : ℕ) (b : Bool) → b ≡ eqb n 0 → leb 1 n ≡ not b
some-in n b e = some n ∙ ap not (sym e)

pub returns-then-is_empty : goal.returns-then-is_empty
unfolding startable
returns-then-is_empty c =
    let one = some-in (length c.args.intervals.now) c.is_empty.result c.is_empty.ensures in
    elim c.then-is_empty.branch [
      | then-is_empty-via-then-is_empty w ↦ simp (one, w.if-is_empty.true)
      | then-is_empty-via-else-is_empty+then-intervals-gt-PORTS w ↦ simp (one, w.if-is_empty.false, lt-leb _ _ w.if-intervals-gt-PORTS.true)
      | then-is_empty-via-else-is_empty+else-intervals-gt-PORTS+then-listed-gt-LISTED w ↦ simp (one, w.if-is_empty.false, le-leb _ _ w.if-intervals-gt-PORTS.false, lt-leb _ _ w.if-listed-gt-LISTED.true)
    ]

pub returns : goal.returns
unfolding startable
returns c =
    let ns = c.args.intervals.now in
    let all = all_from_yields_List interval_right _ _ c.all.result c.all.ensures.ran (YieldsList-from_slice ns cc) (λ x b q k. search (rules, tests)) in
    simp (some-in (length ns) c.is_empty.result c.is_empty.ensures, c.if-is_empty.false, le-leb _ _ c.if-intervals-gt-PORTS.false, le-leb _ _ c.if-listed-gt-LISTED.false)
    (all ∙ every-all interval_right ns)
