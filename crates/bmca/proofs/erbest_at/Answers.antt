-- `bmca::erbest_at` meets its contract. Assumes nothing.
use native.Mathlib.Omega.{arith}
use mathlib.Core.Path.{◌∙◌}
use Rattle.slot.specs.Blocks.{length-block, part-block}
use Rattle.book.specs.Layout.{port_words, port_at}
use Rattle.book.proofs.Rules.{held, port-held}
use Rattle.erbest.specs.Place.{best_in}
use Rattle.bmca.proofs.Words.{some-held}
use Rattle.bmca.proofs.erbest_at.Goals as goal

pub erbest-requires : goal.erbest-requires
erbest-requires c =
    let a = c.args in
    let s = a.store.now in
    let pre = c.requires.store_words_in_bounds in
    let at = port_at a.q in
    rw (part-block s at port_words)
    (record { port_len = (length-block s at port_words (omega (arith, (held s pre.1).ports)), (port-held s pre.1 a.q pre.2).masters); bound = some-held s pre.1 a.q pre.2 a.winner })

pub returns : goal.returns
returns c =
    let a = c.args in
    let receiver = c.receiver_at-receiver.ensures in
    let here = part-block a.store.now (port_at a.q) port_words in
    let winner = c.requires.winner_value in
    c.erbest.ensures ∙ (λ i. best_in (receiver i) (here i) (winner i))

pub receiver_at-receiver-requires : goal.receiver_at-receiver-requires
receiver_at-receiver-requires c = (c.requires.store_words_in_bounds.0, omega (arith, (held c.args.store.now c.requires.store_words_in_bounds.1).ports))

pub overflow_mul-at : goal.overflow_mul-at
overflow_mul-at c = omega (arith, (held c.args.store.now c.requires.store_words_in_bounds.1).ports)

pub overflow_add-at : goal.overflow_add-at
overflow_add-at c = omega (arith, (held c.args.store.now c.requires.store_words_in_bounds.1).ports)

pub overflow_add-at-2 : goal.overflow_add-at-2
overflow_add-at-2 c = omega (arith, (held c.args.store.now c.requires.store_words_in_bounds.1).ports)

pub offset_bounds-store-at : goal.offset_bounds-store-at
offset_bounds-store-at c = omega (arith, (held c.args.store.now c.requires.store_words_in_bounds.1).ports)

pub slice_bounds-erbest-end : goal.slice_bounds-erbest-end
slice_bounds-erbest-end c = omega (arith, (held c.args.store.now c.requires.store_words_in_bounds.1).ports)
