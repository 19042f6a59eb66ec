-- `consumption::consume_one` meets its contract. Assumes nothing.
use native.Mathlib.Omega.{arith}
use Prim.Native.Nat.{ℕ, ◌≤◌}
use mathlib.Core.Path.{◌≡◌, sym, ap, ◌∙◌}
use mathlib.Core.Bool.{Bool, false, cond}
use mathlib.Core.List.{List}
use borrow.Author.Tests.{leb-true}
use lib.ListN.{get_or}
use Rattle.slot.specs.Blocks.{length-block, part-block, lent-block}
use Rattle.book.specs.Layout.{master_words, master_at}
use Rattle.offers.specs.Offers.{master_in}
use Rattle.consumption.specs.Consume.{consumed, loses, consumed_at, gone_at}
use Rattle.consumption.proofs.Words.{loses-won, loses_silent, loses-offered, at-lost, at-kept, put_less}
use Rattle.consumption.proofs.consume_one.Goals as goal

-- a master that does not lose
kept : (w i : ℕ) (p : List ℕ) → loses w p i ≡ false → (p ≡ consumed_at w i p) × (0 ≡ gone_at w p i) × (0 ≤ 1)
kept w i p e = (sym (at-kept w i p e), sym (ap (λ (b : Bool). cond b 1 0) e), omega arith)

pub returns-then-winner-i : goal.returns-then-winner-i
returns-then-winner-i c =
    let a = c.args in
    kept a.winner a.i a.port.now (loses-won a.winner a.i a.port.now c.if-winner-i.true)

pub returns-then-not-offers : goal.returns-then-not-offers
returns-then-not-offers c =
    let a = c.args in
    let call = c.offers in
    kept a.winner a.i a.port.now
    (loses_silent a.winner a.i a.port.now (sym call.ensures ∙ c.if-not-offers.true))

pub consume_newest-requires : goal.consume_newest-requires
consume_newest-requires c =
    let a = c.args in
    let p = a.port.now in
    let call = c.offers in
    let two = leb-true 2 (get_or (master_in p a.i) 3 0) (sym call.ensures ∙ c.if-not-offers.false) in
    rw (part-block p (master_at a.i) master_words) (length-block p (master_at a.i) master_words (omega arith), omega arith)

pub returns : goal.returns
unfolding consumed
returns c =
    let a = c.args in
    let p = a.port.now in
    let test = c.offers in
    let call = c.consume_newest in
    let e = loses-offered a.winner a.i p c.if-winner-i.false (sym test.ensures ∙ c.if-not-offers.false) in (
      lent-block consumed p call.new.master (master_at a.i) master_words (omega arith) call.auto.master call.ensures
          ∙ put_less p (master_at a.i) master_words 3 (omega arith) (omega arith)
          ∙ sym (at-lost a.winner a.i p e),
      sym (ap (λ (b : Bool). cond b 1 0) e),
      omega arith,
    )
