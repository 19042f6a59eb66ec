-- `candidates::count_offers` meets its contract. Assumes nothing.
use mathlib.Core.Path.{refl, sym, ◌∙◌}
use native.Mathlib.Omega.{arith}
use native.Mathlib.Numerals.{add-one}
use Rattle.offers.specs.Offers.{offers_at, down_from}
use Rattle.candidates.proofs.Steps.{ones_by, count-more, count-le}
use Rattle.candidates.proofs.count_offers.Goals as goal
use Rattle.candidates.proofs.count_offers.Goals.{then-offers, else-offers}

pub loop-i-init : goal.loop-i-init
unfolding down_from
loop-i-init c = refl

pub overflow_add-n : goal.overflow_add-n
overflow_add-n c = omega (arith, c.loop-i.invariant, count-le (offers_at c.args.port.now) c.loop-i.i)

pub loop-i-preserved : goal.loop-i-preserved
loop-i-preserved c =
    let p = c.args.port.now in
    let l = c.loop-i in
    let count = count-more (offers_at p) l.i in
    rw add-one
    (elim c.if-offers.branch [
      | then-offers w ↦ omega (arith, l.invariant, w.n-is, count, ones_by (offers_at p) l.i _ (sym w.if-offers.true ∙ c.offers.ensures))
      | else-offers w ↦ omega (arith, l.invariant, w.n-is, count, ones_by (offers_at p) l.i _ (sym w.if-offers.false ∙ c.offers.ensures))
    ])
