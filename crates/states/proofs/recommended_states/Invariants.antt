-- The loop of `recommended_states`: the answers so far, and those of the ports still to come, are all answers.
-- Assumes nothing.
use Rattle.std.proofs.Common.{length, take, drop, ◌≡◌, ◌++◌}
use Rattle.states.specs.Ports.{answers_from}
use Rattle.states.proofs.recommended_states.Given as goal

abbrev pub invariant-loop-i : goal.invariant-loop-i
invariant-loop-i l = record {
  long : length l.answers ≡ 8;
  so : take l.i l.answers ++ answers_from l.own l.global l.listening l.i (drop l.i l.erbests) ≡ answers_from l.own l.global l.listening 0 l.erbests;
}
