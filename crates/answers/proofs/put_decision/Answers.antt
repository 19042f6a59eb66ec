-- `answers::put_decision` meets its contract: the tallies, the count, the ports.
-- Assumes nothing.
use Prim.Native.Nat.{ℕ}
use mathlib.Core.Path.{ap, ◌∙◌}
use mathlib.Core.List.{List}
use native.Mathlib.Omega.{arith}
use lib.ListN.{length, set}
use Rattle.wire.specs.Be.{put}
use Rattle.answers.specs.Answers.{ports_words}
use Rattle.answers.proofs.Laws.{length-head, length-decision, decision-put}
use Rattle.answers.proofs.put_decision.Goals as goal

pub put_ports-requires : goal.put_ports-requires
put_ports-requires c =
    let a = c.args in
    let room = c.requires in
    let s = a.s.now in
    let e = ap (λ (t : List ℕ). set t 3 a.d.ports) c.put_tallies.ensures in
    omega (arith, room, ap length e, length-head s a.d room)

pub shape_of-s : goal.shape_of-s
shape_of-s c =
    let a = c.args in
    let room = c.requires in
    let ports = c.put_ports.ensures in
    let e = ap (λ (t : List ℕ). put (set t 3 a.d.ports) 4 (ports_words a.d.answers)) c.put_tallies.ensures in
    ap length (ports.s_after ∙ e) ∙ length-decision a.s.now a.d room ports.answers_len

pub returns : goal.returns
returns c =
    let a = c.args in
    let ports = c.put_ports.ensures in
    let e = ap (λ (t : List ℕ). put (set t 3 a.d.ports) 4 (ports_words a.d.answers)) c.put_tallies.ensures in
    ports.s_after ∙ e ∙ decision-put a.s.now a.d c.requires ports.answers_len
