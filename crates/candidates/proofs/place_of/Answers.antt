-- `candidates::place_of` meets its contract. Assumes nothing.
use Prim.Native.Nat.{ℕ, ◌-◌}
use mathlib.Core.Path.{◌≡◌, sym, ap, ◌∙◌}
use native.Mathlib.Omega.{arith}
use lib.ListN.{drop, get_or}
use Rattle.offers.specs.Offers.{offers_at, down_from}
use Rattle.candidates.proofs.Steps.{ones, ones_by, some_left, place_found, place-next}
use Rattle.candidates.proofs.place_of.Goals as goal

pub returns-then-left-eq0 : goal.returns-then-left-eq0
returns-then-left-eq0 c =
    let a = c.args in
    let l = c.loop-i in
    let test = offers_at a.port.now in
    let one = ones_by test (l.i - 1) _ (sym c.if-offers.true ∙ c.offers.ensures) in
    place_found test (get_or a.port.now 1 0) a.k l.i l.left l.invariant c.requires.2 (omega (arith, one, c.if-left-eq0.true))

pub loop-i-preserved-then-offers : goal.loop-i-preserved-then-offers
loop-i-preserved-then-offers c =
    let a = c.args in
    let l = c.loop-i in
    let test = offers_at a.port.now in
    let one = ones_by test (l.i - 1) _ (sym c.if-offers.true ∙ c.offers.ensures) in
    ap (λ (n : ℕ). drop (l.left - n) (down_from (l.i - 1) test)) (sym one)
    ∙ place-next test (get_or a.port.now 1 0) a.k l.i l.left l.invariant c.requires.2 (omega (arith, one, c.if-left-eq0.false))

pub loop-i-preserved : goal.loop-i-preserved
loop-i-preserved c =
    let a = c.args in
    let l = c.loop-i in
    let test = offers_at a.port.now in
    let none = ones_by test (l.i - 1) _ (sym c.if-offers.false ∙ c.offers.ensures) in
    let e : l.left - ones test (l.i - 1) ≡ l.left = omega (arith, none) in
    ap (λ (n : ℕ). drop n (down_from (l.i - 1) test)) (sym e)
    ∙ place-next test (get_or a.port.now 1 0) a.k l.i l.left l.invariant c.requires.2 (omega (arith, none))

pub unreachable-requires : goal.unreachable-requires
unreachable-requires c =
    let a = c.args in
    let l = c.loop-i in
    absurd (omega (arith, some_left (offers_at a.port.now) (get_or a.port.now 1 0) a.k l.i l.left l.invariant c.requires.2, c.loop-i-test.false))
