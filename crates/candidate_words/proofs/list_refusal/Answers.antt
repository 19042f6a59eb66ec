-- `candidate_words::list_refusal` meets its contract: the words are no whole candidates, or a word does not fit, or not.
-- Assumes nothing.
use mathlib.Core.Path.{sym, ◌∙◌}
use mathlib.Core.Bool.{true, false}
use Rattle.candidate_words.proofs.Laws.{list_broken, list-fits}
use Rattle.candidate_words.proofs.list_refusal.Goals as goal

pub returns-then-s-ne0 : goal.returns-then-s-ne0
returns-then-s-ne0 c = list_broken c.args.s.now c.if-s-ne0.true

pub returns-then-not-all_fit : goal.returns-then-not-all_fit
returns-then-not-all_fit c = list-fits c.args.s.now false c.if-s-ne0.false (sym c.all_fit.ensures ∙ c.if-not-all_fit.true)

pub returns : goal.returns
returns c = list-fits c.args.s.now true c.if-s-ne0.false (sym c.all_fit.ensures ∙ c.if-not-all_fit.false)
