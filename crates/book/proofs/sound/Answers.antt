-- `book::sound` meets its contract. Assumes nothing.
use native.Mathlib.Omega.{arith}
use borrow.Author.Tests.{lt-leb, le-leb}
use mathlib.Core.Path.{◌≡◌, sym, ◌∙◌}
use mathlib.Core.Bool.{and-false}
use lib.ListN.{get_or}
use Rattle.slot.specs.Blocks.{part-block}
use Rattle.store.specs.Below.{all-fails}
use Rattle.book.specs.Rules.{port_test, sound_words}
use Rattle.book.proofs.sound.Goals.{then-count-lt1-via-then-count-lt1, then-count-lt1-via-else-count-lt1+then-count-gt-PORTS, then-count-lt1-via-else-count-lt1+else-count-gt-PORTS+then-store-gt16}
use Rattle.book.proofs.sound.Goals as goal

pub returns-then-count-lt1 : goal.returns-then-count-lt1
unfolding sound_words
returns-then-count-lt1 c =
    elim c.then-count-lt1.branch [
      | then-count-lt1-via-then-count-lt1 w ↦ simp (lt-leb _ _ w.if-count-lt1.true)
      | then-count-lt1-via-else-count-lt1+then-count-gt-PORTS w ↦ simp (le-leb _ _ w.if-count-lt1.false, lt-leb _ _ w.if-count-gt-PORTS.true)
      | then-count-lt1-via-else-count-lt1+else-count-gt-PORTS+then-store-gt16 w ↦ simp (le-leb _ _ w.if-count-lt1.false, le-leb _ _ w.if-count-gt-PORTS.false, lt-leb _ _ w.if-store-gt16.true)
    ]

pub returns-then-not-port_sound : goal.returns-then-not-port_sound
unfolding sound_words
returns-then-not-port_sound c =
    let s = c.args.store.now in
    simp (
      all-fails (port_test s) (get_or s 0 0) c.loop-q.q (omega arith)
          (sym (rw part-block at c.port_sound.ensures) ∙ c.if-not-port_sound.true),
      and-false,
    )

pub returns : goal.returns
unfolding sound_words
returns c =
    let e : c.loop-q.q ≡ get_or c.args.store.now 0 0 = omega arith in
    simp (le-leb _ _ c.if-count-lt1.false, le-leb _ _ c.if-count-gt-PORTS.false, le-leb _ _ c.if-store-gt16.false)
    (sym (rw e at c.loop-q.invariant))
