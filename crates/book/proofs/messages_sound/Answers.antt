-- `book::messages_sound` meets its contract. Assumes nothing.
use native.Mathlib.Omega.{arith}
use mathlib.Core.Path.{sym, ◌∙◌}
use lib.ListN.{get_or}
use Rattle.store.specs.Below.{all-fails}
use Rattle.book.specs.Rules.{rule_at}
use Rattle.book.proofs.messages_sound.Goals as goal

pub returns-then-not-message_sound : goal.returns-then-not-message_sound
returns-then-not-message_sound c =
    let a = c.args in
    sym (all-fails (rule_at a.limit a.master.now) (get_or a.master.now 3 0) c.loop-k.k (omega arith)
    (sym c.message_sound.ensures ∙ c.if-not-message_sound.true))
