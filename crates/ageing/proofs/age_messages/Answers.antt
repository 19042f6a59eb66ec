-- `ageing::age_messages` meets its contract. Assumes nothing.
use Rattle.std.proofs.Common.{◌≡◌, ℕ, length, get_or, ap, ◌∙◌, add-one, arith}
use Rattle.ageing.specs.Age.{older_at, older_to}
use Rattle.ageing.specs.AgeLaws.{length-older_to}
use Rattle.ageing.proofs.age_messages.Goals as goal

pub age_message-requires : goal.age_message-requires
age_message-requires c =
    let l = c.loop-k in
    let a = c.args in
    ap length l.invariant ∙ length-older_to a.step l.k a.master.now ∙ c.requires

pub loop-k-preserved : goal.loop-k-preserved
loop-k-preserved c = rw add-one (c.age_message.ensures ∙ ap (older_at c.args.step c.loop-k.k) c.loop-k.invariant)

pub returns : goal.returns
returns c =
    let l = c.loop-k in
    let a = c.args in
    let e : l.k ≡ get_or a.master.now 3 0 = omega arith in
    l.invariant ∙ ap (λ (k : ℕ). older_to a.step k a.master.now) e
