-- `answers::put_state` meets its contract: by the state.
-- Assumes nothing.
use mathlib.Core.Path.{sym, ap, ◌∙◌}
use Rattle.wire.specs.Be.{put}
use Rattle.answers.specs.Answers.{state_words}
use Rattle.answers.proofs.put_state.Goals as goal

pub returns-in-Stay : goal.returns-in-Stay
unfolding state_words
returns-in-Stay c =
    let a = c.args in
    c.put_bare.ensures ∙ ap (λ t. put a.s.now a.at (state_words t)) (sym c.in-Stay.is)

pub returns-in-M1 : goal.returns-in-M1
unfolding state_words
returns-in-M1 c =
    let a = c.args in
    c.put_bare-in-M1.ensures ∙ ap (λ t. put a.s.now a.at (state_words t)) (sym c.in-M1.is)

pub returns-in-M2 : goal.returns-in-M2
unfolding state_words
returns-in-M2 c =
    let a = c.args in
    c.put_bare-in-M2.ensures ∙ ap (λ t. put a.s.now a.at (state_words t)) (sym c.in-M2.is)

pub returns-in-M3 : goal.returns-in-M3
unfolding state_words
returns-in-M3 c =
    let a = c.args in
    c.put_carrying.ensures ∙ ap (λ t. put a.s.now a.at (state_words t)) (sym c.in-M3.is)

pub returns-in-P1 : goal.returns-in-P1
unfolding state_words
returns-in-P1 c =
    let a = c.args in
    c.put_carrying-in-P1.ensures ∙ ap (λ t. put a.s.now a.at (state_words t)) (sym c.in-P1.is)

pub returns-in-P2 : goal.returns-in-P2
unfolding state_words
returns-in-P2 c =
    let a = c.args in
    c.put_carrying-in-P2.ensures ∙ ap (λ t. put a.s.now a.at (state_words t)) (sym c.in-P2.is)

pub returns-in-S1 : goal.returns-in-S1
unfolding state_words
returns-in-S1 c =
    let a = c.args in
    c.put_carrying-in-S1.ensures ∙ ap (λ t. put a.s.now a.at (state_words t)) (sym c.in-S1.is)
