-- `log_answer::put_ports` meets its contract: what is left leads, from any turn, to the same text. Assumes nothing.
use Prim.Native.Nat.{ℕ, ◌+◌, ◌*◌, ◌≤◌, ◌<◌}
use mathlib.Core.Path.{◌≡◌, refl, sym, ap, ◌∙◌}
use mathlib.Core.List.{List}
use native.Mathlib.Omega.{arith}
use lib.ListN.{length, take, drop, drop_of_length-le}
use lib.Seq.{sets, length-sets, length-take-le}
use borrow.Author.Rules.{rules}
use Rattle.states.specs.declared.PortAnswer.{PortAnswer}
use Rattle.hex_line.specs.Hex.{hex_of}
use Rattle.log_answer.specs.Answer.{states_text}
use Rattle.log_answer.specs.Steps.{states-next, states-last}
use Rattle.log_answer.proofs.put_ports.Goals as goal

pub loop-i-init : goal.loop-i-init
loop-i-init c = (refl, refl)

pub loop-i-preserved : goal.loop-i-preserved
loop-i-preserved c =
    let l = c.loop-i in
    let xs = c.args.answers in
    let ports = c.args.ports in
    let h : l.i < ports = omega arith in
    let p = c.put_hex.ensures in
    let x = hex_of c.number.result in
    let size : length xs ≡ 8 = search rules in
    let k : ports ≤ length xs = omega (arith, size) in (
      ap (λ (o : List ℕ). sets o (2 + (l.i + 1) * 2) (states_text (drop (l.i + 1) (take ports xs)))) (p ∙ ap (λ (x : ℕ). sets l.out (2 + l.i * 2) (hex_of x)) c.number.ensures)
          ∙ states-next l.out xs ports l.i _ h k
          ∙ l.invariant.0,
      ap length p ∙ length-sets l.out (2 + l.i * 2) x ∙ l.invariant.1,
    )

pub returns : goal.returns
returns c =
    let l = c.loop-i in
    let xs = c.args.answers in
    let ports = c.args.ports in
    let size : length xs ≡ 8 = search rules in
    let n : l.i ≡ ports = omega arith in
    let e : length (take ports xs) ≤ ports = omega (arith, length-take-le ports xs (omega (arith, size))) in
    (sym (states-last l.out (2 + ports * 2)) ∙ ap (λ (ys : List PortAnswer). sets l.out (2 + ports * 2) (states_text ys)) (sym (drop_of_length-le (take ports xs) e)) ∙ rw n at l.invariant.0, size)
