-- `book::port_sound` meets its contract. Assumes nothing.
use native.Mathlib.Omega.{arith}
use borrow.Author.Tests.{lt-leb, le-leb, lt-ltb, le-ltb}
use mathlib.Core.Path.{◌≡◌, sym, ◌∙◌}
use mathlib.Core.Bool.{and-false}
use lib.ListN.{get_or}
use Rattle.store.specs.Below.{all-fails}
use Rattle.book.specs.Rules.{placed, port_sound}
use Rattle.book.proofs.port_sound.Goals.{then-interval-lt1-via-then-interval-lt1, then-interval-lt1-via-else-interval-lt1+then-interval-ge1152921504606846976, then-interval-lt1-via-else-interval-lt1+else-interval-ge1152921504606846976+then-count-gt-MASTERS}
use Rattle.book.proofs.port_sound.Goals as goal

pub returns-then-interval-lt1 : goal.returns-then-interval-lt1
unfolding port_sound
returns-then-interval-lt1 c =
    elim c.then-interval-lt1.branch [
      | then-interval-lt1-via-then-interval-lt1 w ↦ simp (lt-leb _ _ w.if-interval-lt1.true)
      | then-interval-lt1-via-else-interval-lt1+then-interval-ge1152921504606846976 w ↦ simp (le-leb _ _ w.if-interval-lt1.false, le-ltb _ _ w.if-interval-ge1152921504606846976.true)
      | then-interval-lt1-via-else-interval-lt1+else-interval-ge1152921504606846976+then-count-gt-MASTERS w ↦ simp (le-leb _ _ w.if-interval-lt1.false, lt-ltb _ _ w.if-interval-ge1152921504606846976.false, lt-leb _ _ w.if-count-gt-MASTERS.true)
    ]

pub returns-then-not-master_placed : goal.returns-then-not-master_placed
unfolding port_sound
returns-then-not-master_placed c =
    let a = c.args in
    simp (
      all-fails (placed a.head.now a.port.now) (get_or a.port.now 1 0) c.loop-i.i (omega arith)
          (sym c.master_placed.ensures ∙ c.if-not-master_placed.true),
      and-false,
    )

pub returns : goal.returns
unfolding port_sound
returns c =
    let e : c.loop-i.i ≡ get_or c.args.port.now 1 0 = omega arith in
    simp (le-leb _ _ c.if-interval-lt1.false, lt-ltb _ _ c.if-interval-ge1152921504606846976.false, le-leb _ _ c.if-count-gt-MASTERS.false)
    (sym (rw e at c.loop-i.invariant))
