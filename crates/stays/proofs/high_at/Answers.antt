-- `stays::high_at` meets its contract. Assumes nothing.
use Prim.Native.Nat.{◌+◌, ◌^◌, ◌<◌}
use mathlib.Core.Path.{sym}
use native.Mathlib.Omega.{arith}
use lib.ListN.{get_or}
use Rattle.book.specs.Layout.{slot_at}
use Rattle.stays.specs.Words.{high_word}
use Rattle.stays.proofs.high_at.Goals as goal

pub returns : goal.returns
returns c =
    let a = c.args in
    let h : get_or a.master.now (slot_at (get_or a.master.now 2 0) a.k + 5) 0 < 2 ^ 64 = omega (arith, c.type_inv.master (slot_at (get_or a.master.now 2 0) a.k + 5)) in
    rw c.slot_at-at.ensures.0 (sym (high_word a.master.now a.k h))
