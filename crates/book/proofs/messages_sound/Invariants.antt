-- `book::messages_sound` meets its contract. Assumes nothing.
use mathlib.Core.Path.{◌≡◌}
use mathlib.Core.Bool.{true}
use Rattle.store.specs.Below.{all}
use Rattle.book.specs.Rules.{rule_at}
use Rattle.book.proofs.messages_sound.Given as goal

abbrev pub invariant-loop-k : goal.invariant-loop-k
invariant-loop-k l = all l.k (rule_at l.limit l.master) ≡ true
