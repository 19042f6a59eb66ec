-- `stays::stays` meets its contract. Assumes nothing.
use mathlib.Core.Path.{sym, ◌∙◌}
use Rattle.stays.specs.Words.{stays_same, stays-other}
use Rattle.stays.proofs.stays.Goals as goal

pub returns-then-ours-theirs : goal.returns-then-ours-theirs
returns-then-ours-theirs c =
    c.stays_near.ensures
    ∙ sym (stays_same _ _ (sym c.grandmaster_at-ours.ensures ∙ c.if-ours-theirs.true ∙ c.grandmaster_at-theirs.ensures))

pub returns : goal.returns
returns c =
    c.stays_far.ensures
    ∙ sym (stays-other _ _ (λ e. c.if-ours-theirs.false (c.grandmaster_at-ours.ensures ∙ e ∙ sym c.grandmaster_at-theirs.ensures)))
