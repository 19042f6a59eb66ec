-- `tlv::entry_at` meets its contract, by the law of each of its five ways.
-- Assumes nothing.
use Prim.Native.Nat.{ℕ, ◌%◌}
use mathlib.Core.Path.{sym, ap, ◌∙◌}
use native.Mathlib.Omega.{arith}
use Rattle.tlv.proofs.Laws.{read_none, read-few, read-odd, read_past, read-entry}
use Rattle.tlv.proofs.entry_at.Goals as goal

pub returns-then-s-at : goal.returns-then-s-at
returns-then-s-at c = let a = c.args in read_none a.least a.s.now a.at c.if-s-at.true

pub returns-then-left-least : goal.returns-then-left-least
returns-then-left-least c = let a = c.args in read-few a.least a.s.now a.at c.if-s-at.false c.if-left-least.true

pub returns-then-len-ne0 : goal.returns-then-len-ne0
returns-then-len-ne0 c =
    let a = c.args in
    read-odd a.least a.s.now a.at c.if-s-at.false c.if-left-least.false
    (λ e. c.if-len-ne0.true (ap (λ (n : ℕ). n % 2) c.u16_at-len.ensures ∙ e))

pub returns-then-left-len : goal.returns-then-left-len
returns-then-left-len c =
    let a = c.args in
    let len = c.u16_at-len.ensures in
    read_past a.least a.s.now a.at c.if-s-at.false c.if-left-least.false
    (ap (λ (n : ℕ). n % 2) (sym len) ∙ c.if-len-ne0.false) (omega (arith, len, c.if-left-len.true))

pub returns : goal.returns
returns c =
    let d = c in
    let a = d.args in
    let len = d.u16_at-len.ensures in
    rw (c.u16_at.ensures, len)
    (read-entry a.least a.s.now a.at d.if-s-at.false d.if-left-least.false
    (ap (λ (n : ℕ). n % 2) (sym len) ∙ c.if-len-ne0.false) (omega (arith, len, c.if-left-len.false)))
