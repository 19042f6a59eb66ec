-- `log_answer::put_states` meets its contract. Assumes nothing.
use mathlib.Core.Path.{ap, ◌∙◌}
use mathlib.Core.List.{List}
use Prim.Native.Nat.{ℕ}
use lib.ListN.{take}
use lib.Seq.{sets}
use Rattle.log_answer.specs.Answer.{states_text}
use Rattle.log_answer.specs.Steps.{states-first}
use Rattle.log_answer.proofs.put_states.Goals as goal

pub returns : goal.returns
returns c =
    let a = c.args in
    let p = c.put_ports.ensures in
    let h = c.put_hex.ensures in
    let xs = take a.ports a.answers in
    (p.0 ∙ ap (λ (l : List ℕ). sets l 2 (states_text xs)) h ∙ states-first a.out.now xs, p.1)
