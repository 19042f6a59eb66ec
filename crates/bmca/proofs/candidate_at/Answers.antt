-- `bmca::candidate_at` meets its contract. Assumes nothing.
use native.Mathlib.Omega.{arith}
use Prim.Native.Nat.{◌≤◌, ◌<◌}
use mathlib.Core.Path.{ap, ◌∙◌}
use borrow.Author.Tests.{le-ltb, lt-ltb}
use lib.ListN.{get_or}
use Rattle.std.specs.Prelude.{Some}
use Rattle.choice.specs.Candidate.{whole}
use Rattle.slot.specs.Blocks.{block, length-block, get_or-block, part-block}
use Rattle.book.specs.Layout.{port_words, port_at}
use Rattle.book.proofs.Rules.{held, port-held}
use Rattle.offers.specs.Offers.{best_at}
use Rattle.bmca.specs.Plan.{winner_at}
use Rattle.bmca.proofs.Words.{some-held}
use Rattle.bmca.proofs.candidate_at.Goals as goal

pub returns-then-count-winner : goal.returns-then-count-winner
returns-then-count-winner c =
    let a = c.args in
    let s = a.store.now in
    let at = port_at a.q in
    let l : get_or (block s at port_words) 1 0 ≤ winner_at s a.q =
    omega (arith, get_or-block s at port_words 1 (omega arith), c.if-count-winner.true, c.requires.winner_value) in
    rw (le-ltb _ _ l)

pub best_at-best-requires : goal.best_at-best-requires
best_at-best-requires c =
    let a = c.args in
    let s = a.store.now in
    let pre = c.requires.store_words_in_bounds in
    let at = port_at a.q in
    let few = (port-held s pre.1 a.q pre.2).masters in
    let l : a.winner < get_or (block s at port_words) 1 0 = omega (arith, get_or-block s at port_words 1 (omega arith), c.if-count-winner.false) in
    rw (part-block s at port_words)
    (length-block s at port_words (omega (arith, (held s pre.1).ports)), omega (arith, few, l), some-held s pre.1 a.q pre.2 a.winner l)

pub returns : goal.returns
returns c =
    let a = c.args in
    let s = a.store.now in
    let at = port_at a.q in
    let receiver = c.receiver_at-receiver.ensures in
    let here = part-block s at port_words in
    let winner = c.requires.winner_value in
    let l : winner_at s a.q < get_or (block s at port_words) 1 0 =
    omega (arith, get_or-block s at port_words 1 (omega arith), c.if-count-winner.false, winner) in
    rw (lt-ltb _ _ l) (ap Some (c.candidate.ensures ∙ ap whole (c.best_at-best.ensures ∙ (λ i. best_at (receiver i) (here i) (winner i)))))

pub overflow_mul-at : goal.overflow_mul-at
overflow_mul-at c = omega (arith, (held c.args.store.now c.requires.store_words_in_bounds.1).ports)

pub overflow_add-at : goal.overflow_add-at
overflow_add-at c = omega (arith, (held c.args.store.now c.requires.store_words_in_bounds.1).ports)

pub overflow_add-count : goal.overflow_add-count
overflow_add-count c = omega (arith, (held c.args.store.now c.requires.store_words_in_bounds.1).ports)

pub offset_bounds-store-at : goal.offset_bounds-store-at
offset_bounds-store-at c = omega (arith, (held c.args.store.now c.requires.store_words_in_bounds.1).ports)

pub bounds-store-at : goal.bounds-store-at
bounds-store-at c = omega (arith, (held c.args.store.now c.requires.store_words_in_bounds.1).ports)

pub receiver_at-receiver-requires : goal.receiver_at-receiver-requires
receiver_at-receiver-requires c = (c.requires.store_words_in_bounds.0, omega (arith, (held c.args.store.now c.requires.store_words_in_bounds.1).ports))

pub overflow_add-at-2 : goal.overflow_add-at-2
overflow_add-at-2 c = omega (arith, (held c.args.store.now c.requires.store_words_in_bounds.1).ports)

pub offset_bounds-store-at-2 : goal.offset_bounds-store-at-2
offset_bounds-store-at-2 c = omega (arith, (held c.args.store.now c.requires.store_words_in_bounds.1).ports)

pub slice_bounds-best_at-end : goal.slice_bounds-best_at-end
slice_bounds-best_at-end c = omega (arith, (held c.args.store.now c.requires.store_words_in_bounds.1).ports)
