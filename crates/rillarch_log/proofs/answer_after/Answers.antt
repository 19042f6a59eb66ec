-- `rillarch_log::answer_after` meets its contract: what is lent is the room after what waits. Assumes nothing.
use Prim.Native.Nat.{ℕ, ◌-◌}
use mathlib.Core.Path.{subst}
use native.Mathlib.Omega.{arith}
use lib.ListN.{length, take, drop, length-drop}
use lib.Seq.{length-take-le}
use Rattle.lines.specs.Lines.{next_line}
use Rattle.log_step.specs.Piece.{StepWithin}
use Rattle.log_step.proofs.Steps.{step-known}
use Rattle.rillarch_log.proofs.answer_after.Goals as goal

pub returns : goal.returns
returns c =
    let f = c.next_answer in
    let start = c in
    let a = start.args in
    let l = a.out.now in
    record {
      step_within = subst (λ (room : ℕ). StepWithin room (length a.piece.now) a.at f.result)
          (length-take-le (length l - a.used) (drop a.used l) (omega (arith, length-drop a.used l)))
          f.ensures.within;
      step_known = step-known (next_line a.line.now a.count a.piece.now a.at) a.setup a.store.now (take (length l - a.used) (drop a.used l)) _ _ start.requires.1 f.ensures.value f.ensures.store_after;
    }
