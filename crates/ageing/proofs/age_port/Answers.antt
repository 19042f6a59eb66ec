-- `ageing::age_port` meets its contract. Assumes nothing.
use Rattle.std.proofs.Common.{◌≡◌, ℕ, List, get_or, ap, ◌∙◌, arith}
use Rattle.history.specs.Rules.{age_limit}
use Rattle.ageing.specs.Age.{packed, gone_port, aged_port}
use Rattle.ageing.specs.AgeLaws.{aged_to-word}
use Rattle.ageing.proofs.age_port.Goals as goal

pub pack_masters-requires : goal.pack_masters-requires
pack_masters-requires c =
    let start = c in
    let aged = c.age_masters-out in
    let p = start.args.port.now in
    let count : get_or aged.new.port 1 0 ≡ get_or p 1 0 =
    ap (λ (q : List ℕ). get_or q 1 0) aged.ensures.1
    ∙ aged_to-word start.args.step (age_limit (get_or p 0 0)) p start.requires.0 (get_or p 1 0) 1 start.requires.1 (omega arith) in
    (aged.auto.port ∙ start.requires.0, omega (arith, start.requires.1))

pub returns : goal.returns
unfolding gone_port aged_port
returns c =
    let aged = c.age_masters-out in
    (aged.ensures.0, c.pack_masters.ensures ∙ ap packed aged.ensures.1, aged.ensures.2)
