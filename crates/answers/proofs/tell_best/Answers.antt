-- `answers::tell_best` meets its contract: by what was chosen.
-- Assumes nothing.
use mathlib.Core.Path.{refl, sym, ap, ◌∙◌}
use Rattle.wire.specs.Be.{put}
use Rattle.answers.specs.Answers.{best_words}
use Rattle.answers.proofs.tell_best.Goals as goal

pub returns-in-None : goal.returns-in-None
returns-in-None c =
    let a = c.args in
    (refl, c.put_words.ensures ∙ ap (λ t. put a.s.now 0 (best_words t)) (sym c.in-None.is))

pub returns-in-Some : goal.returns-in-Some
returns-in-Some c =
    let a = c.args in
    (refl, c.put_found.ensures ∙ ap (λ t. put a.s.now 0 (best_words t)) (sym c.in-Some.is))
