-- `stays::lower2` meets its contract, by how the two rows stand. Assumes nothing.
use Prim.Native.Nat.{ℕ, ◌<◌}
use mathlib.Core.Path.{◌≡◌, ◌∙◌}
use mathlib.Core.List.{[], ◌∷◌}
use native.Mathlib.Omega.{arith}
use borrow.Author.Tests.{lt-ltb, le-ltb, ne_eqb}
use lib.Dec.{ltb}
use Rattle.std.proofs.Common.{le_of_lt, sym}
use Rattle.std.proofs.Math.Arith.{lt_of_le-ne}
use Rattle.order.specs.Order.{is_less, lex}
use Rattle.order.specs.Rows.{decided, ends, lower, higher, skip, Two, two, lt, eq, gt}
use Rattle.stays.proofs.lower2.Goals as goal

-- where the first numbers are level the second decide
second : (a b x y : ℕ) → a ≡ x → ltb b y ≡ is_less (lex (a ∷ b ∷ []) (x ∷ y ∷ []))
second a b x y e = go (two b y)
  where
    go : Two b y → ltb b y ≡ is_less (lex (a ∷ b ∷ []) (x ∷ y ∷ []))
    go (lt h) = lt-ltb b y h ∙ decided is_less _ (skip (omega arith) (omega arith) (lower h))
    go (eq h k) = le-ltb b y k ∙ decided is_less _ (skip (omega arith) (omega arith) (skip h k ends))
    go (gt h) = le-ltb b y (le_of_lt h) ∙ decided is_less _ (skip (omega arith) (omega arith) (higher h))

pub returns-then-a-x : goal.returns-then-a-x
returns-then-a-x c = lt-ltb _ _ c.if-a-x.true ∙ decided is_less _ (lower c.if-a-x.true)

pub returns-then-a-x-2 : goal.returns-then-a-x-2
returns-then-a-x-2 c = let a = c.args in second a.a a.b a.x a.y c.if-a-x-2.true

pub returns-else-a-x-2 : goal.returns-else-a-x-2
returns-else-a-x-2 c =
    let a = c.args in
    let h : a.x < a.a = lt_of_le-ne c.if-a-x.false (λ e. c.if-a-x-2.false (sym e)) in
    ne_eqb _ _ c.if-a-x-2.false ∙ decided is_less _ (higher h)
