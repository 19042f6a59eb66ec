-- `ageing::pack_masters` meets its contract. Assumes nothing.
use Rattle.std.proofs.Common.{◌≡◌, ℕ, get_or, set, ap, ◌∙◌, add-one, arith}
use Rattle.ageing.specs.Age.{Packing, pack_step, packing, packed}
use Rattle.ageing.proofs.pack_masters.Goals as goal

pub loop-i-preserved : goal.loop-i-preserved
loop-i-preserved c =
    let l = c.loop-i in
    let call = c.pack_one-next in
    (omega (arith, call.ensures.upper_bound), rw add-one (call.ensures.result_after ∙ ap (pack_step l.i) l.invariant.1))

pub returns : goal.returns
unfolding packed
returns c =
    let l = c.loop-i in
    let a = c.args in
    let e : l.i ≡ get_or a.port.now 1 0 = omega arith in
    ap (λ (s : Packing). set s.words 1 s.next) (l.invariant.1 ∙ ap (λ (n : ℕ). packing n a.port.now) e)
