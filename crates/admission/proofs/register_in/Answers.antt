-- `admission::register_in` meets its contract. Assumes nothing.
use Prim.Native.Nat.{ℕ}
use native.Mathlib.Omega.{arith}
use mathlib.Core.List.{List}
use mathlib.Core.Path.{ap, ◌∙◌}
use Rattle.slot.specs.Blocks.{block, length-block, part-block, lent-block}
use Rattle.book.specs.Layout.{head_words, port_words, port_at}
use Rattle.book.proofs.Rules.{held, held-port}
use Rattle.admission.specs.Admit.{evicted_at, registered, evicted_in, registered_in}
use Rattle.admission.proofs.register_in.Goals as goal

pub overflow_mul-at : goal.overflow_mul-at
overflow_mul-at c = omega (arith, held c.args.store.now c.requires.store_words_in_bounds.0.1)

pub overflow_add-at : goal.overflow_add-at
overflow_add-at c = omega (arith, held c.args.store.now c.requires.store_words_in_bounds.0.1)

pub overflow_add-at-2 : goal.overflow_add-at-2
overflow_add-at-2 c = omega (arith, held c.args.store.now c.requires.store_words_in_bounds.0.1)

pub offset_bounds-store-at : goal.offset_bounds-store-at
offset_bounds-store-at c = omega (arith, held c.args.store.now c.requires.store_words_in_bounds.0.1)

pub slice_bounds-register_at-end : goal.slice_bounds-register_at-end
slice_bounds-register_at-end c = omega (arith, held c.args.store.now c.requires.store_words_in_bounds.0.1)

pub register_at-requires : goal.register_at-requires
register_at-requires c = let s = c.args.store.now in
    let q = c.args.q in
    let pre = c.requires in
    let h = held s pre.store_words_in_bounds.0.1 in
    rw part-block (record {
      port_len = (
        (
          length-block s (port_at q) port_words (omega arith),
          (held-port (block s 0 head_words) (block s (port_at q) port_words) (h.port q pre.store_words_in_bounds.1)).masters,
        ),
        pre.m_bound.1,
      );
      m_bound = pre.m_bound.0;
    })

pub returns : goal.returns
unfolding evicted_in registered_in
returns c =
    let a = c.args in
    let h = held a.store.now c.requires.store_words_in_bounds.0.1 in
    let call = c.register_at in
    let f : List ℕ → List ℕ = λ w. registered w a.m in
    (call.ensures.0 ∙ ap (λ (w : List ℕ). evicted_at w a.m) (part-block a.store.now (port_at a.q) port_words), lent-block f a.store.now call.new.port (port_at a.q) port_words (omega arith) call.auto.port call.ensures.1)
