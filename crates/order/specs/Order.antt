-- How numbers and rows of numbers stand: the three-valued order in which the comparison and its laws are written.
-- Assumes nothing.
use Rattle.std.specs.Prelude.{ℕ, Bool, true, false, List, [], ◌∷◌, nat_lt}
use Rattle.std.specs.declared.cmp.Ordering.{Ordering}
use Rattle.std.specs.declared.cmp.Ordering.TheVariants.{Less, Equal, Greater}

-- from the two tests a < b and b < a
abbrev pub three : Bool → Bool → Ordering
three true t = Less
three false true = Greater
three false false = Equal

unfoldable pub cmp : ℕ → ℕ → Ordering
cmp a b = three (nat_lt a b) (nat_lt b a)

-- the first that differs decides
abbrev pub then_by : Ordering → Ordering → Ordering
then_by Less p = Less
then_by Equal p = p
then_by Greater p = Greater

-- two rows, element by element
unfoldable pub lex : List ℕ → List ℕ → Ordering
lex [] [] = Equal
lex [] (y ∷ ys) = Less
lex (x ∷ xs) [] = Greater
lex (x ∷ xs) (y ∷ ys) = then_by (cmp x y) (lex xs ys)

-- seen from the other side
abbrev pub flip : Ordering → Ordering
flip Less = Greater
flip Equal = Equal
flip Greater = Less

abbrev pub is_less : Ordering → Bool
is_less Less = true
is_less Equal = false
is_less Greater = false

abbrev pub is_greater : Ordering → Bool
is_greater o = is_less (flip o)
