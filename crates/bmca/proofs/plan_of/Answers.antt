-- `bmca::plan_of` meets its contract. Assumes nothing.
use mathlib.Core.Path.{ap, ◌∙◌}
use lib.ListN.{get_or}
use Rattle.bmca.specs.Plan.{ebest_in, receiver_in}
use Rattle.bmca.proofs.Planned.{receiver-shown}
use Rattle.bmca.proofs.plan_of.Goals as goal

pub returns : goal.returns
returns c =
    let s = c.args.store.now in
    let best = c.receiver_of.ensures ∙ ap receiver_in c.ebest_of-global.ensures ∙ receiver-shown (ebest_in s) in
    λ i. record { ports = get_or s 0 0; best = best i; winners = c.winners_of-winners.ensures i; numbers = c.numbers_of-numbers.ensures i }
