-- `store::find_master` meets its contract. Assumes nothing.
use native.Mathlib.Omega.{arith}
use Prim.Native.Nat.{ℕ}
use mathlib.Core.Path.{◌≡◌, sym, ◌∙◌, ap}
use mathlib.Core.Bool.{Bool, false}
use borrow.Author.Count.{below_none, below_more}
use lib.ListN.{get_or, length-take, length-drop}
use Rattle.store.specs.Below.{first_found, first-none}
use Rattle.slot.specs.Blocks.{block, part-block}
use Rattle.store.specs.Layout.{identity, master_at, master_words}
use Rattle.store.specs.Search.{named, place}
use Rattle.store.proofs.find_master.Goals as goal

pub loop-i-init : goal.loop-i-init
loop-i-init c = (omega arith, below_none _)

pub is_master-requires : goal.is_master-requires
is_master-requires c = simp (length-take, length-drop) (omega arith)

pub loop-i-preserved : goal.loop-i-preserved
loop-i-preserved c =
    let a = c.args in
    let l = c.loop-i in
    let p : ℕ → Bool = λ i. named (identity a.clock a.number) (block a.port.now (master_at i) master_words) in
    (omega arith, below_more (λ k. p k ≡ false) l.i l.invariant.1 (ap (named (identity a.clock a.number)) (sym (part-block a.port.now (master_at l.i) master_words)) ∙ sym c.is_master.ensures ∙ c.if-is_master.false))

pub returns-then-count-i : goal.returns-then-count-i
unfolding place
returns-then-count-i c =
    let a = c.args in
    let p : ℕ → Bool = λ i. named (identity a.clock a.number) (block a.port.now (master_at i) master_words) in
    sym (first-none p (get_or a.port.now 1 0) (λ k l. c.loop-i.invariant.1 k (omega arith)))

pub returns-then-is_master : goal.returns-then-is_master
unfolding place
returns-then-is_master c =
    let a = c.args in
    let l = c.loop-i in
    let p : ℕ → Bool = λ i. named (identity a.clock a.number) (block a.port.now (master_at i) master_words) in
    sym (first_found p (get_or a.port.now 1 0) l.i (omega arith) l.invariant.1 (ap (named (identity a.clock a.number)) (sym (part-block a.port.now (master_at l.i) master_words)) ∙ sym c.is_master.ensures ∙ c.if-is_master.true))
