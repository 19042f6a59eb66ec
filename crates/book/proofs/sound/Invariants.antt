-- `book::sound` meets its contract. Assumes nothing.
use mathlib.Core.Path.{◌≡◌}
use mathlib.Core.Bool.{true}
use Rattle.slot.specs.Blocks.{block}
use Rattle.store.specs.Below.{all}
use Rattle.store.specs.Layout.{head_words, port_words, port_at}
use Rattle.book.specs.Rules.{port_sound}
use Rattle.book.proofs.sound.Given as goal

abbrev pub invariant-loop-q : goal.invariant-loop-q
invariant-loop-q l = all l.q (λ p. port_sound (block l.store 0 head_words) (block l.store (port_at p) port_words)) ≡ true
