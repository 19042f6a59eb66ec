-- `answers::put_ports` meets its contract. The loop's invariant: the states so far stand from word 4 on.
-- Assumes nothing.
use mathlib.Core.Path.{◌≡◌}
use lib.ListN.{length, take}
use Rattle.wire.specs.Be.{put}
use Rattle.answers.specs.Answers.{ports_words}
use Rattle.answers.proofs.put_ports.Given as goal

abbrev pub invariant-loop-i : goal.invariant-loop-i
invariant-loop-i l = (length l.s ≡ length l.initial.s) × (l.s ≡ put l.initial.s 4 (ports_words (take l.i l.answers)))
