-- `admission::register_at` meets its contract. Assumes nothing.
use Prim.Native.Nat.{ℕ}
use native.Mathlib.Omega.{arith}
use mathlib.Core.List.{List}
use mathlib.Core.Path.{ap, ◌∙◌}
use borrow.Author.Tests.{lt-ltb, le-ltb}
use Rattle.slot.specs.Blocks.{part-block, lent-block}
use Rattle.book.specs.Layout.{master_at, master_words}
use Rattle.admission.specs.Admit.{puts_out, appended, begun, evicted_at, registered}
use Rattle.admission.proofs.register_at.Goals as goal

pub returns-then-place-count : goal.returns-then-place-count
unfolding evicted_at registered
returns-then-place-count c =
    let a = c.args in
    let found = c.find_master-place in
    let call = c.append in
    let f : List ℕ → List ℕ = λ w. appended w a.m in
    let e = lent-block f a.port.now call.new.master (master_at found.result) master_words (omega arith) call.auto.master call.ensures.1 in
    (simp (← found.ensures, lt-ltb _ _ c.if-place-count.true) (call.ensures.0 ∙ ap puts_out (part-block a.port.now (master_at found.result) master_words)), simp (e, ← found.ensures, lt-ltb _ _ c.if-place-count.true))

pub returns : goal.returns
unfolding evicted_at registered
returns c =
    let a = c.args in
    let found = c.find_master-place in
    let call = c.begin in
    let f : List ℕ → List ℕ = λ w. begun w a.m.message.header.source_port_identity a.m in
    let e = lent-block f a.port.now call.new.master (master_at found.result) master_words (omega arith) call.auto.master call.ensures in
    (simp (← found.ensures, le-ltb _ _ c.if-place-count.false), simp (e, ← found.ensures, le-ltb _ _ c.if-place-count.false))
