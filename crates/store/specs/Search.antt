-- The searches for a clock among the acceptable ones, and for a master of a port.
-- Assumes nothing.
use Rattle.std.specs.Prelude.{ℕ, zero, suc, ◌+◌, ◌-◌, ◌≤◌, ◌≡◌, refl, Bool, true, false, ◌||◌, cond, List, [], ◌∷◌, ltb, eqb, get_or, length, take, drop}
use Rattle.std.specs.List.{list_any}
use Rattle.std.proofs.Common.{sym, ap, ◌∙◌, arith, lt-ltb}
use Rattle.std.proofs.Math.Dec.{leb-suc-suc}
use Rattle.header.specs.declared.PortIdentity.{PortIdentity}
use Rattle.same.specs.Same.{same_port}
use Rattle.slot.specs.Blocks.{block, length-block, get_or-block, part-block}
use Rattle.store.specs.Below.{first, first-le, first-ext}
use Rattle.store.specs.Layout.{master_words, master_at, identity_of}

-- a master of this identity
abbrev pub named : PortIdentity → List ℕ → Bool
named src m = same_port (identity_of m) src

-- the first master of a port with this identity, or the count
unfoldable pub place : List ℕ → PortIdentity → ℕ
place p src = first (get_or p 1 0) (λ i. named src (block p (master_at i) master_words))

pub place-le : (p : List ℕ) (src : PortIdentity) → place p src ≤ get_or p 1 0
unfolding place
place-le p src = first-le (λ i. named src (block p (master_at i) master_words)) (get_or p 1 0)

-- whether the head accepts a clock: any, or one of its list
unfoldable pub accepts_head : List ℕ → ℕ → Bool
accepts_head h clock = eqb (get_or h 2 0) 0 || ltb (first (get_or h 3 0) (λ i. eqb (get_or h (4 + i) 0) clock)) (get_or h 3 0)

-- a test holds of a word of a list exactly where the first such word stands before the end
pub any-first : (p : ℕ → Bool) (l : List ℕ) → list_any p l ≡ ltb (first (length l) (λ i. p (get_or l i 0))) (length l)
any-first p [] = refl
any-first p (x ∷ l) = pick (p x) (first (length l) (λ i. p (get_or l i 0))) (list_any p l) (any-first p l)
  where
    pick : (b : Bool) (f : ℕ) (r : Bool) → r ≡ ltb f (length l) → (b || r) ≡ ltb (cond b zero (suc f)) (suc (length l))
    pick true f r e = sym (lt-ltb zero (suc (length l)) (omega arith))
    pick false f r e = e ∙ sym (leb-suc-suc (suc f) (length l))

-- so a number is one of the n words from b on exactly where its first place among them is below n
pub any-listed : (x : ℕ) (s : List ℕ) (b n : ℕ) → b + n ≤ length s
    → list_any (λ y. eqb y x) (take (b + n - b) (drop b s)) ≡ ltb (first n (λ i. eqb (get_or s (b + i) 0) x)) n
any-listed x s b n fits =
    ap (list_any (λ y. eqb y x)) (part-block s b n)
    ∙ any-first (λ y. eqb y x) (block s b n)
    ∙ ap (λ (k : ℕ). ltb (first k (λ i. eqb (get_or (block s b n) i 0) x)) k) (length-block s b n fits)
    ∙ ap (λ (k : ℕ). ltb k n) (first-ext (λ i. eqb (get_or (block s b n) i 0) x) (λ i. eqb (get_or s (b + i) 0) x) n (λ i l. ap (λ (w : ℕ). eqb w x) (get_or-block s b n i l)))
