-- `ageing::count_stale` meets its contract. Assumes nothing.
use Rattle.std.proofs.Common.{◌≡◌, ℕ, Bool, false, get_or, sym, arith, below_none, below_more, le-ltb, lt-ltb}
use Rattle.book.specs.Below.{first_found, first-none}
use Rattle.history.specs.Port.{young}
use Rattle.book.specs.Layout.{message_at, reads}
use Rattle.ageing.specs.Age.{stale}
use Rattle.ageing.proofs.count_stale.Goals as goal

pub loop-k-init : goal.loop-k-init
loop-k-init c = below_none _

pub returns-then-age_at-limit : goal.returns-then-age_at-limit
unfolding stale
returns-then-age_at-limit c =
    let a = c.args in
    let l = c.loop-k in
    let p : ℕ → Bool = λ k. young reads a.limit (message_at a.master.now k) in
    sym (first_found p (get_or a.master.now 3 0) l.k (omega arith) l.invariant (rw c.age_at.ensures at (lt-ltb _ _ c.if-age_at-limit.true)))

pub loop-k-preserved : goal.loop-k-preserved
loop-k-preserved c =
    let a = c.args in
    let l = c.loop-k in
    let p : ℕ → Bool = λ k. young reads a.limit (message_at a.master.now k) in
    below_more (λ j. p j ≡ false) l.k l.invariant (rw c.age_at.ensures at (le-ltb _ _ c.if-age_at-limit.false))

pub returns : goal.returns
unfolding stale
returns c =
    let a = c.args in
    let p : ℕ → Bool = λ k. young reads a.limit (message_at a.master.now k) in
    sym (first-none p (get_or a.master.now 3 0) (λ j h. c.loop-k.invariant j (omega arith)))
