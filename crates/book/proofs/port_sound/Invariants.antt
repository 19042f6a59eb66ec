-- `book::port_sound` meets its contract. Assumes nothing.
use mathlib.Core.Path.{◌≡◌}
use mathlib.Core.Bool.{true}
use Rattle.store.specs.Below.{all}
use Rattle.book.specs.Rules.{placed}
use Rattle.book.proofs.port_sound.Given as goal

abbrev pub invariant-loop-i : goal.invariant-loop-i
invariant-loop-i l = all l.i (placed l.head l.port) ≡ true
