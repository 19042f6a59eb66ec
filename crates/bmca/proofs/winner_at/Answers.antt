-- `bmca::winner_at` meets its contract. Assumes nothing.
use native.Mathlib.Omega.{arith}
use mathlib.Core.Path.{ap, ◌∙◌}
use Rattle.slot.specs.Blocks.{length-block, part-block}
use Rattle.book.specs.Layout.{port_words, port_at}
use Rattle.book.proofs.Rules.{held, port-held}
use Rattle.erbest.specs.Place.{winner_place}
use Rattle.bmca.proofs.winner_at.Goals as goal

pub port_winner-requires : goal.port_winner-requires
port_winner-requires c =
    let s = c.args.store.now in
    let pre = c.requires in
    let at = port_at c.args.q in
    rw (part-block s at port_words)
    (length-block s at port_words (omega (arith, (held s pre.1).ports)), (port-held s pre.1 c.args.q pre.2).masters)

pub returns : goal.returns
returns c = c.port_winner.ensures ∙ ap winner_place (part-block c.args.store.now (port_at c.args.q) port_words)

pub overflow_mul-at : goal.overflow_mul-at
overflow_mul-at c = omega (arith, (held c.args.store.now c.requires.1).ports)

pub overflow_add-at : goal.overflow_add-at
overflow_add-at c = omega (arith, (held c.args.store.now c.requires.1).ports)

pub overflow_add-at-2 : goal.overflow_add-at-2
overflow_add-at-2 c = omega (arith, (held c.args.store.now c.requires.1).ports)

pub offset_bounds-store-at : goal.offset_bounds-store-at
offset_bounds-store-at c = omega (arith, (held c.args.store.now c.requires.1).ports)

pub slice_bounds-port_winner-end : goal.slice_bounds-port_winner-end
slice_bounds-port_winner-end c = omega (arith, (held c.args.store.now c.requires.1).ports)
