-- `lent::check` meets its contract: the words are too few, or a word is above its limit, or not.
-- Assumes nothing.
use Prim.Native.Nat.{ℕ}
use mathlib.Core.Path.{sym, ap, ◌∙◌}
use mathlib.Core.Bool.{Bool, cond}
use lib.ListN.{length}
use Rattle.lent.specs.Words.{all_within}
use Rattle.lent.specs.Laws.{within-take, lent-short, lent-enough}
use Rattle.lent.proofs.check.Goals as goal

abbrev number : Bool → ℕ
number t = cond t 0 15

pub returns-then-words-limits : goal.returns-then-words-limits
returns-then-words-limits c =
    let ws = c.args.words.now in
    let ls = c.args.limits.now in
    lent-short (length ls) ws 1 (number (all_within ws ls)) c.if-words-limits.true

pub returns-then-not-within : goal.returns-then-not-within
returns-then-not-within c =
    let ws = c.args.words.now in
    let ls = c.args.limits.now in
    sym (ap number (sym (c.within.ensures ∙ within-take ws ls) ∙ c.if-not-within.true)) ∙ lent-enough (length ls) ws 1 (number (all_within ws ls)) c.if-words-limits.false

pub returns : goal.returns
returns c =
    let ws = c.args.words.now in
    let ls = c.args.limits.now in
    sym (ap number (sym (c.within.ensures ∙ within-take ws ls) ∙ c.if-not-within.false)) ∙ lent-enough (length ls) ws 1 (number (all_within ws ls)) c.if-words-limits.false
