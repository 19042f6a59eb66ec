-- Demand 3 of the choice: with and without the agreement.
-- Assumes nothing.
use Rattle.std.specs.Prelude.{◌≡◌, Bool, Some, option_map}
use Rattle.std.proofs.Math.Path.{refl, ap, subst}
use Rattle.std.proofs.Common.{sym, ◌∙◌}
use Rattle.std.proofs.Math.Bool.{false}
use mathlib.Core.List.Memᴰ
use mathlib.Core.List.{List, [], ◌∷◌, Memᴰ, map}
use Rattle.std.specs.declared.cmp.Ordering.{Ordering}
use Rattle.std.specs.declared.cmp.Ordering.TheVariants.{Less, Equal, Greater}
use Rattle.order.specs.Order.{cmp, then_by, is_greater}
use Rattle.compare.specs.Dataset.{as_ordering, compare_of, ranks_above}
use Rattle.choice.specs.declared.Candidate.{Candidate}
use Rattle.choice.specs.Choice.{joined, All, AllOf}
use Rattle.choice.specs.Candidate.{dataset_of, ranking, stays, itself, stays_by, winner, erbests, ebest, single}
use Rattle.agreement.specs.Agreement.{Agreeing}
use Rattle.choice.proofs.Chosen.{all_in, all-at, weak_by, choose-once, choose-agree, choose_has, choose-top, choose-map, Last, choose-last}
use Rattle.agreement.proofs.Ranking.{row_above, row_weak, stays-row}

module _ {A : Type 0} (shown : A → Candidate) where
  -- The winner is one of the candidates, with or without the agreement.
  pub winner_in : (xs : List A) (w : A) → winner shown xs ≡ Some w → Memᴰ w xs
  unfolding winner
  winner_in xs w e = subst (AllOf (λ x. Memᴰ x xs)) e (choose_has (λ x. Memᴰ x xs) (stays_by shown) xs (all_in xs (λ x m. m)))

  -- It is above each candidate that comes after it: of equals the last is chosen.
  pub winner-last : (xs : List A) (w : A) → winner shown xs ≡ Some w → Last (stays_by shown) xs w
  unfolding winner
  winner-last xs w e = subst (AllOf (Last (stays_by shown) xs)) e (choose-last (stays_by shown) xs)

  -- Choosing whole records is choosing what they show.
  pub winner-shown : (xs : List A) → winner itself (map shown xs) ≡ option_map shown (winner shown xs)
  unfolding winner
  winner-shown xs = choose-map shown stays xs

module _ {A : Type 0} {shown : A → Candidate} {xs : List A} (a : Agreeing shown xs) where
  abbrev above : A → A → Bool
  above x y = row_above (shown x) (shown y)

  stays-above : (x y : A) → Memᴰ x xs → Memᴰ y xs → stays_by shown x y ≡ above x y
  stays-above x y m n = stays-row (shown x) (shown y) (a.foreign x m) (a.foreign y n) (a.agree x y m n)

  -- No candidate would stay before the winner,
  pub none_stays : (w : A) → winner shown xs ≡ Some w → (x : A) → Memᴰ x xs → stays_by shown x w ≡ false
  unfolding winner
  none_stays w e x m =
      stays-above x w m (winner_in shown xs w e)
      ∙ all-at (λ y. above y w ≡ false) x xs
      (subst (AllOf (λ v. All (λ y. above y v ≡ false) xs)) (sym (choose-agree stays-above xs (all_in xs (λ y n. n))) ∙ e) (choose-top (weak_by shown row_weak) xs))
      m

  -- and so none ranks above it.
  pub none_above : (w : A) → winner shown xs ≡ Some w → (x : A) → Memᴰ x xs → ranks_above (compare_of (dataset_of (shown x)) (dataset_of (shown w))) ≡ false
  unfolding stays ranking
  none_above w e x m = first (as_ordering (compare_of (dataset_of (shown x)) (dataset_of (shown w)))) (cmp (shown w).age (shown x).age) (none_stays w e x m)
    where
      first : (o p : Ordering) → is_greater (then_by o p) ≡ false → is_greater o ≡ false
      first Less p n = refl
      first Equal p n = refl
      first Greater p n = n

-- a candidate of a port is one of all
in_joined : {A : Type 0} (x : A) (xs : List A) (ports : List (List A)) → Memᴰ xs ports → Memᴰ x xs → Memᴰ x (joined ports)
in_joined x xs [] n m = elim n [ ]
in_joined x xs (ys ∷ ports) (Memᴰ.head e) m = Memᴰ.append_left (joined ports) (subst (λ zs. Memᴰ x zs) e m)
in_joined x xs (ys ∷ ports) (Memᴰ.tail n) m = Memᴰ.append_right ys (in_joined x xs ports n m)

module _ {A : Type 0} (shown : A → Candidate) (ports : List (List A)) (a : Agreeing shown (joined ports)) where
  -- A winner per port and a winner among those is the winner of a single choice over all, in the same order.
  pub choosing_once : single shown ports ≡ ebest shown ports
  unfolding single ebest erbests winner
  choosing_once = choose-once (stays-above a) (weak_by shown row_weak) ports (all_in (joined ports) (λ x m. m))

  -- No candidate of a port ranks above its Erbest,
  pub erbest-none-above :
      (xs : List A) → Memᴰ xs ports → (w : A) → winner shown xs ≡ Some w → (x : A) → Memᴰ x xs
      → ranks_above (compare_of (dataset_of (shown x)) (dataset_of (shown w))) ≡ false
  erbest-none-above xs n =
      none_above
      (record {
        foreign = λ x m. a.foreign x (in_joined x xs ports n m);
        agree = λ x y m k. a.agree x y (in_joined x xs ports n m) (in_joined y xs ports n k);
      })

  -- and none of any port above Ebest.
  pub ebest-none-above : (w : A) → ebest shown ports ≡ Some w → (x : A) → Memᴰ x (joined ports) → ranks_above (compare_of (dataset_of (shown x)) (dataset_of (shown w))) ≡ false
  unfolding single
  ebest-none-above w e x m = none_above a w (choosing_once ∙ e) x m

  -- Of the calls: the single choice over the candidates of all ports answers the candidate of Ebest.
  pub once-shown : winner itself (map shown (joined ports)) ≡ option_map shown (ebest shown ports)
  unfolding single
  once-shown = winner-shown shown (joined ports) ∙ ap (option_map shown) choosing_once
