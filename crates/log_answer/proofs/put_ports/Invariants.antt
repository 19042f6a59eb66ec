-- `log_answer::put_ports` meets its contract: what is left leads, from any turn, to the same text. Assumes nothing.
use Prim.Native.Nat.{◌+◌, ◌*◌}
use mathlib.Core.Path.{◌≡◌}
use lib.ListN.{length, take, drop}
use lib.Seq.{sets}
use Rattle.log_answer.specs.Answer.{states_text}
use Rattle.log_answer.proofs.put_ports.Given as goal

abbrev pub invariant-loop-i : goal.invariant-loop-i
invariant-loop-i l = (sets l.out (2 + l.i * 2) (states_text (drop l.i (take l.ports l.answers))) ≡ sets l.initial.out 2 (states_text (take l.ports l.answers)))
    × (length l.out ≡ length l.initial.out)
