-- `erbest::keep` meets its contract. Assumes nothing.
use Prim.Native.Nat.{ℕ, ◌+◌, ◌-◌, ◌*◌, ◌<◌, ◌≤◌}
use mathlib.Core.Path.{◌≡◌, sym, ◌∙◌}
use native.Mathlib.Omega.{arith}
use borrow.Author.Tests.{leb-true}
use lib.ListN.{get_or, length, take, drop, length-take, length-drop}
use Rattle.slot.specs.Blocks.{part-block}
use Rattle.offers.specs.Offers.{master_in}
use Rattle.erbest.proofs.Place.{keep_silent, keep-first, keep-held, keep-next}
use Rattle.erbest.proofs.keep.Goals as goal

pub returns-then-not-offers : goal.returns-then-not-offers
returns-then-not-offers c = sym (keep_silent _ _ _ (sym c.offers.ensures ∙ c.if-not-offers.true))

pub returns-then-count-held : goal.returns-then-count-held
returns-then-count-held c = sym (keep-first _ _ _ (sym c.offers.ensures ∙ c.if-not-offers.false) c.if-count-held.true)

pub stays-requires : goal.stays-requires
stays-requires c =
    let s = c in
    let a = s.args in
    let l : (k : ℕ) → k < 12 → length (take (4 + k * 68 + 68 - (4 + k * 68)) (drop (4 + k * 68) a.port.now)) ≡ 68 = λ k h. simp (length-take, length-drop) (omega arith) in
    let ours : 2 ≤ get_or (master_in a.port.now a.held) 3 0 = leb-true _ _ (s.requires.offered c.if-count-held.false) in
    let theirs : 2 ≤ get_or (master_in a.port.now a.i) 3 0 = leb-true _ _ (sym c.offers.ensures ∙ c.if-not-offers.false) in
    record { held_len = (l a.held (omega arith), rw part-block (omega arith)); next_len = (l a.i (omega arith), rw part-block (omega arith)) }

pub returns-then-stays : goal.returns-then-stays
returns-then-stays c =
    sym
    (keep-held _ _ _ (sym c.offers.ensures ∙ c.if-not-offers.false) c.if-count-held.false
    (sym (rw (part-block, part-block) at c.stays.ensures) ∙ c.if-stays.true))

pub returns-else-stays : goal.returns-else-stays
returns-else-stays c =
    sym
    (keep-next _ _ _ (sym c.offers.ensures ∙ c.if-not-offers.false) c.if-count-held.false
    (sym (rw (part-block, part-block) at c.stays.ensures) ∙ c.if-stays.false))
