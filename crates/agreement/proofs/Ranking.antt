-- Candidates not sent by the clock that received them, which agree where they name one grandmaster: the crate's order is that of
-- their rows of numbers.
-- Assumes nothing.
use Rattle.std.specs.Prelude.{◌≡◌, refl, Bool, true, false, List, [], ◌∷◌, ◌++◌, ℕ}
use Rattle.std.proofs.Common.{sym, ◌∙◌, arith}
use Rattle.std.proofs.Math.Path.{ap}
use Rattle.std.proofs.lemmas.Bool.{false≢true}
use Rattle.std.proofs.Math.Decide.{ℕ_discrete}
use Rattle.compare.specs.declared.ComparisonDataset.{ComparisonDataset}
use Rattle.std.specs.declared.cmp.Ordering.{Ordering}
use Rattle.std.specs.declared.cmp.Ordering.TheVariants.{Less, Equal, Greater}
use Rattle.order.specs.Order.{cmp, then_by, lex, flip, is_less, is_greater}
use Rattle.compare.specs.Dataset.{by_quality, by_topology, nearer_by, farther_by, quality_row, topology_row, figure34, figure35, as_ordering}
use Rattle.order.specs.Rows.{Stand, Two, lt, eq, gt, two, cmp_less, cmp_greater, cmp_equal, cmp-flip, stand_equal, stand-lex, stand-refl, stand, stand-flip, stand-trans, lex-flip, then_by_assoc, then_by_equal}
use Rattle.compare.proofs.Laws.{same-grandmaster, other-grandmaster, far-above, far-below, above, below, level, Gap, gap, two-more, one_more, as_many, one_less, two_less}
use Rattle.choice.specs.declared.Candidate.{Candidate}
use Rattle.choice.specs.Candidate.{dataset_of, ranking, stays}
use Rattle.agreement.specs.Agreement.{SameData, Foreign}
use Rattle.choice.proofs.Chosen.{Weak, weak_by}

-- the numbers that decide between candidates of one grandmaster, and between any: the lower row is the better
abbrev pub tie_row : Candidate → List ℕ
tie_row c = c.steps_removed ∷ (topology_row (dataset_of c) ++ (c.age ∷ []))

abbrev row : Candidate → List ℕ
row c = quality_row (dataset_of c) ++ tie_row c

pub row_above : Candidate → Candidate → Bool
row_above c d = is_less (lex (row c) (row d))

-- one row is lower than another: a weak order
less_of : (o : Ordering) → is_less o ≡ true → o ≡ Less
less_of Less e = refl
less_of Equal e = absurd (false≢true e)
less_of Greater e = absurd (false≢true e)

stand_less : (xs ys : List ℕ) → is_less (lex xs ys) ≡ true → Stand xs ys Less
stand_less xs ys e = rw (less_of (lex xs ys) e) at (stand xs ys)

not_less : (xs ys zs : List ℕ) (o p : Ordering) → Stand xs ys o → Stand ys zs p → is_less o ≡ false → is_less p ≡ false → is_less (lex xs zs) ≡ false
not_less xs ys zs Less p s t e f = absurd (false≢true (sym e))
not_less xs ys zs Equal p s t e f = rw (stand_equal s, stand-lex t) f
not_less xs ys zs Greater Less s t e f = absurd (false≢true (sym f))
not_less xs ys zs Greater Equal s t e f = rw (← stand_equal t, stand-lex s)
not_less xs ys zs Greater Greater s t e f = ap is_less (lex-flip zs xs ∙ ap flip (stand-lex (stand-trans (stand-flip t) (stand-flip s))))

lower_weak : Weak (λ xs ys. is_less (lex xs ys))
lower_weak =
    record {
      irrefl = λ xs. ap is_less (stand-lex (stand-refl xs));
      trans = λ xs ys zs e f. ap is_less (stand-lex (stand-trans (stand_less xs ys e) (stand_less ys zs f)));
      cotrans = λ xs ys zs. not_less xs ys zs (lex xs ys) (lex ys zs) (stand xs ys) (stand ys zs);
    }

by-quality : (o : Ordering) (p q : Ordering) → (o ≡ Equal → ⊥) → then_by (as_ordering (by_quality o)) p ≡ flip (then_by o q)
by-quality Less p q n = refl
by-quality Equal p q n = absurd (n refl)
by-quality Greater p q n = refl

by-topology : (o p : Ordering) → then_by (as_ordering (by_topology o)) (flip p) ≡ flip (then_by o p)
by-topology Less p = refl
by-topology Equal p = refl
by-topology Greater p = refl

foreign_farther : (a : ComparisonDataset) (p : Ordering) → Foreign a → then_by (as_ordering (farther_by (cmp a.identity_of_receiver.clock_identity a.identity_of_senders))) p ≡ Less
foreign_farther a p f = go (two a.identity_of_receiver.clock_identity a.identity_of_senders)
  where
    go : Two a.identity_of_receiver.clock_identity a.identity_of_senders → then_by (as_ordering (farther_by (cmp a.identity_of_receiver.clock_identity a.identity_of_senders))) p ≡ Less
    go (lt h) = rw (cmp_less _ _ h)
    go (eq h k) = absurd (f (omega arith))
    go (gt h) = rw (cmp_greater _ _ h)

foreign_nearer : (a : ComparisonDataset) (p : Ordering) → Foreign a → then_by (as_ordering (nearer_by (cmp a.identity_of_receiver.clock_identity a.identity_of_senders))) p ≡ Greater
foreign_nearer a p f = go (two a.identity_of_receiver.clock_identity a.identity_of_senders)
  where
    go : Two a.identity_of_receiver.clock_identity a.identity_of_senders → then_by (as_ordering (nearer_by (cmp a.identity_of_receiver.clock_identity a.identity_of_senders))) p ≡ Greater
    go (lt h) = rw (cmp_less _ _ h)
    go (eq h k) = absurd (f (omega arith))
    go (gt h) = rw (cmp_greater _ _ h)

-- the rows of two candidates stand as their quality, then as what is left
rows_split : (a b : ComparisonDataset) (us vs : List ℕ) → lex (quality_row a ++ us) (quality_row b ++ vs) ≡ then_by (lex (quality_row a) (quality_row b)) (lex us vs)
unfolding lex
rows_split a b us vs = simp then_by_assoc

topology_split : (a b : ComparisonDataset) (m n : ℕ) → lex (topology_row a ++ (m ∷ [])) (topology_row b ++ (n ∷ [])) ≡ then_by (lex (topology_row a) (topology_row b)) (cmp m n)
unfolding lex
topology_split a b m n = simp (then_by_assoc, then_by_equal)

-- the same numbers, the same row
same_row : (a b : ComparisonDataset) → a.gm_identity ≡ b.gm_identity → SameData a b → quality_row a ≡ quality_row b
same_row a b e s = cc

row-grandmaster : (a b : ComparisonDataset) → quality_row a ≡ quality_row b → a.gm_identity ≡ b.gm_identity
row-grandmaster a b e = cc

module _ (c d : Candidate) where
  -- different grandmasters
  ranking_34 : ((dataset_of c).gm_identity ≡ (dataset_of d).gm_identity → ⊥) → ranking c d ≡ flip (lex (row c) (row d))
  unfolding ranking figure34
  ranking_34 n = rw (other-grandmaster (dataset_of c) (dataset_of d) n, rows_split (dataset_of c) (dataset_of d) (tie_row c) (tie_row d)) (by-quality (lex (quality_row (dataset_of c)) (quality_row (dataset_of d))) (cmp d.age c.age) (lex (tie_row c) (tie_row d)) differ)
    where
      differ : lex (quality_row (dataset_of c)) (quality_row (dataset_of d)) ≡ Equal → ⊥
      differ e = n (row-grandmaster (dataset_of c) (dataset_of d) (stand_equal (rw e at (stand (quality_row (dataset_of c)) (quality_row (dataset_of d))))))

  -- one grandmaster
  pub ranking_35 : (dataset_of c).gm_identity ≡ (dataset_of d).gm_identity → Foreign (dataset_of c) → Foreign (dataset_of d) → ranking c d ≡ flip (lex (tie_row c) (tie_row d))
  unfolding ranking lex
  ranking_35 e f g = rw (same-grandmaster (dataset_of c) (dataset_of d) e) (go (gap c.steps_removed d.steps_removed))
    where
      go : Gap c.steps_removed d.steps_removed → then_by (as_ordering (figure35 (dataset_of c) (dataset_of d))) (cmp d.age c.age) ≡ flip (lex (tie_row c) (tie_row d))
      go (two-more h) = rw (far-above (dataset_of c) (dataset_of d) h, cmp_greater c.steps_removed d.steps_removed (omega arith))
      go (one_more h k) = rw (above (dataset_of c) (dataset_of d) h k, cmp_greater c.steps_removed d.steps_removed h) (foreign_farther (dataset_of c) _ f)
      go (as_many h k) =
          rw (level (dataset_of c) (dataset_of d) h k, cmp_equal c.steps_removed d.steps_removed h k, ← cmp-flip c.age d.age)
          (by-topology (lex (topology_row (dataset_of c)) (topology_row (dataset_of d))) (cmp c.age d.age)
          ∙ ap flip (sym (topology_split (dataset_of c) (dataset_of d) c.age d.age)))
      go (one_less h k) = rw (below (dataset_of c) (dataset_of d) h k, cmp_less c.steps_removed d.steps_removed h) (foreign_nearer (dataset_of d) _ g)
      go (two_less h) = rw (far-below (dataset_of c) (dataset_of d) h, cmp_less c.steps_removed d.steps_removed (omega arith))

  -- both: the crate's order of two candidates is the order of their rows, seen from the other side
  ranking-row : Foreign (dataset_of c) → Foreign (dataset_of d) → ((dataset_of c).gm_identity ≡ (dataset_of d).gm_identity → SameData (dataset_of c) (dataset_of d)) → ranking c d ≡ flip (lex (row c) (row d))
  ranking-row f g agree = go (ℕ_discrete (dataset_of c).gm_identity (dataset_of d).gm_identity)
    where
      go : Dec ((dataset_of c).gm_identity ≡ (dataset_of d).gm_identity) → ranking c d ≡ flip (lex (row c) (row d))
      go (yes e) =
          rw (rows_split (dataset_of c) (dataset_of d) (tie_row c) (tie_row d), same_row (dataset_of c) (dataset_of d) e (agree e), stand-lex (stand-refl (quality_row (dataset_of d))))
          (ranking_35 e f g)
      go (no n) = ranking_34 n

less_flip : (o : Ordering) → is_greater (flip o) ≡ is_less o
less_flip Less = refl
less_flip Equal = refl
less_flip Greater = refl

pub row_weak : Weak row_above
unfolding row_above
row_weak = weak_by row lower_weak

-- so the one held stays exactly if its row is the lower
pub stays-row : (c d : Candidate) → Foreign (dataset_of c) → Foreign (dataset_of d) → (c.gm_identity ≡ d.gm_identity → SameData (dataset_of c) (dataset_of d)) → stays c d ≡ row_above c d
unfolding stays row_above
stays-row c d f g agree = ap is_greater (ranking-row c d f g agree) ∙ less_flip (lex (row c) (row d))
