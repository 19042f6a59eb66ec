-- `stays::stays_near` meets its contract. Assumes nothing.
use Prim.Native.Nat.{ℕ}
use mathlib.Core.Path.{◌≡◌, sym, ap₂, ◌∙◌}
use mathlib.Core.List.{[], ◌∷◌}
use native.Mathlib.Omega.{arith}
use lib.ListN.{get_or}
use Rattle.std.specs.declared.cmp.Ordering.TheVariants.{Less, Greater}
use Rattle.order.specs.Order.{is_less, lex}
use Rattle.order.specs.Rows.{decided, lower, higher}
use Rattle.history.specs.Port.{steps}
use Rattle.book.specs.Layout.{reads}
use Rattle.offers.specs.Offers.{newest_of}
use Rattle.stays.specs.Words.{near-level}
use Rattle.stays.proofs.stays_near.Goals as goal

pub returns-then-ours-theirs : goal.returns-then-ours-theirs
returns-then-ours-theirs c = decided is_less Less (lower (omega arith))

pub returns-then-theirs-ours : goal.returns-then-theirs-ours
returns-then-theirs-ours c = decided is_less Greater (higher (omega arith))

pub returns : goal.returns
returns c =
    let a = c.args in
    let m = a.held.now in
    let n = a.next.now in
    let e : steps reads (newest_of m) ≡ steps reads (newest_of n) = omega (arith, c.steps_at-theirs.ensures, c.steps_at-ours.ensures) in
    c.lower2.ensures
    ∙ ap₂ (λ (x y : ℕ). is_less (lex (get_or m 0 0 ∷ x ∷ []) (get_or n 0 0 ∷ y ∷ []))) c.age_at-b.ensures c.age_at-y.ensures
    ∙ sym (near-level m n e)
