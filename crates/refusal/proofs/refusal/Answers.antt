-- `refusal::refusal` meets its contract. Assumes nothing.
use Prim.Native.Nat.{ℕ, ◌+◌}
use native.Mathlib.Omega.{arith}
use mathlib.Core.Path.{◌∙◌, ap}
use mathlib.Core.List.{List}
use lib.ListN.{length-take}
use Rattle.slot.specs.Blocks.{block, length-block, get_or-block, part-block}
use Rattle.book.specs.Layout.{head_words, port_words, port_at}
use Rattle.book.proofs.Rules.{held, held-port}
use Rattle.history.specs.Port.{sender, sequence, steps}
use Rattle.book.specs.Layout.{reads}
use Rattle.refusal.specs.Refusal.{refusal_at, refusal_in}
use Rattle.refusal.proofs.refusal.Goals as goal

pub overflow_mul-at : goal.overflow_mul-at
overflow_mul-at c = omega (arith, held c.args.store.now c.requires.0.1)

pub overflow_add-at : goal.overflow_add-at
overflow_add-at c = omega (arith, held c.args.store.now c.requires.0.1)

pub overflow_add-at-2 : goal.overflow_add-at-2
overflow_add-at-2 c = omega (arith, held c.args.store.now c.requires.0.1)

pub offset_bounds-store-at : goal.offset_bounds-store-at
offset_bounds-store-at c = omega (arith, held c.args.store.now c.requires.0.1)

pub slice_bounds-refusal_at-end-2 : goal.slice_bounds-refusal_at-end-2
slice_bounds-refusal_at-end-2 c = omega (arith, held c.args.store.now c.requires.0.1)

pub overflow_cast-q : goal.overflow_cast-q
overflow_cast-q c = record { fits = omega (arith, held c.args.store.now c.requires.0.1) }

pub overflow_add-q : goal.overflow_add-q
overflow_add-q c = record { fits = omega (arith, held c.args.store.now c.requires.0.1) }

pub refusal_at-requires : goal.refusal_at-requires
refusal_at-requires c = let a = c in
    let s = a.args.store.now in
    let q = a.args.q in
    let h = held s a.requires.0.1 in
    rw part-block (record { head_len = ((simp length-take (omega arith), omega (arith, get_or-block s 0 head_words 3 (omega arith))), length-block s (port_at q) port_words (omega arith)); held_port = held-port (block s 0 head_words) (block s (port_at q) port_words) (h.port q a.requires.1) })

pub returns : goal.returns
unfolding refusal_in
returns c =
    let a = c.args in
    c.refusal_at.ensures
    ∙ ap (λ (w : List ℕ). refusal_at (block a.store.now 0 head_words) w (a.q + 1) (sender reads a.m) (sequence reads a.m) (steps reads a.m)) (part-block a.store.now (port_at a.q) port_words)
