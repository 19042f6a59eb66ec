-- `erbest::erbest` meets its contract. Assumes nothing.
use native.Mathlib.Omega.{arith}
use borrow.Author.Tests.{le-ltb, lt-ltb}
use Rattle.erbest.proofs.erbest.Goals as goal

pub returns-then-count-winner : goal.returns-then-count-winner
returns-then-count-winner c = simp (le-ltb _ _ c.if-count-winner.true)

pub best_at-requires : goal.best_at-requires
best_at-requires c =
    let pre = c.requires in
    (pre.port_len.0, omega arith, pre.bound c.if-count-winner.false)

pub returns : goal.returns
returns c = simp (lt-ltb _ _ c.if-count-winner.false, ← c.best_at.ensures)
