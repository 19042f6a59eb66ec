-- `recommended_states` meets its contract: each turn adds the answer of the next port.
-- Assumes nothing.
use Rattle.std.proofs.Common.{◌∙◌, sym, ap, refl, ◌≤◌, ◌<◌, length, length-set, arith}
use Rattle.states.specs.Ports.{answers_from}
use Rattle.states.proofs.Steps.{answered-next, answered-all}
use Rattle.states.proofs.recommended_states.Goals as goal

pub loop-i-preserved : goal.loop-i-preserved
loop-i-preserved c =
    let inv = c.loop-i.invariant in
    let h : c.loop-i.i < length c.args.erbests = omega arith in
    let k : c.loop-i.i < length c.loop-i.answers = omega (arith, inv.long) in
    record {
      long = simp length-set inv.long;
      so = answered-next _ _ _ _ _ _ _ _ _ h k refl c.calculate_recommended_state-state.ensures ∙ inv.so;
    }

pub returns : goal.returns
returns c =
    let inv = c.loop-i.invariant in
    let h : length c.args.erbests ≤ c.loop-i.i = omega arith in
    let k : length c.loop-i.answers ≤ c.loop-i.i = omega (arith, inv.long) in
    sym (answered-all _ _ _ c.args.erbests c.loop-i.answers c.loop-i.i h k) ∙ inv.so
    ∙ ap (λ o. answers_from c.args.own o c.args.listening 0 c.args.erbests) c.ebest-global.ensures
