-- Swapping the two sides of a comparison mirrors the verdict.
-- Assumes nothing.
use Rattle.std.specs.Prelude.{◌≡◌, refl}
use Rattle.std.proofs.Common.{sym, ap, ◌∙◌}
use Rattle.std.proofs.Math.Decide.{ℕ_discrete}
use Rattle.std.specs.declared.cmp.Ordering.{Ordering}
use Rattle.std.specs.declared.cmp.Ordering.TheVariants.{Less, Equal, Greater}
use Rattle.order.specs.Order.{cmp, lex, flip}
use Rattle.order.specs.Rows.{lex-flip}
use Rattle.compare.specs.declared.ComparisonDataset.{ComparisonDataset}
use Rattle.compare.specs.Dataset.{by_quality, by_topology, nearer_by, farther_by, quality_row, topology_row, figure34, figure35, compare_of}
use Rattle.compare.proofs.Laws.{same-grandmaster, other-grandmaster, far-above, far-below, above, below, level, Gap, gap, two-more, one_more, as_many, one_less, two_less}
use Rattle.compare_laws.specs.Mirror.{mirror}

mirror-quality : (o : Ordering) → mirror (by_quality o) ≡ by_quality (flip o)
mirror-quality Less = refl
mirror-quality Equal = refl
mirror-quality Greater = refl

mirror_topology : (o : Ordering) → mirror (by_topology o) ≡ by_topology (flip o)
mirror_topology Less = refl
mirror_topology Equal = refl
mirror_topology Greater = refl

mirror_farther : (o : Ordering) → mirror (farther_by o) ≡ nearer_by o
mirror_farther Less = refl
mirror_farther Equal = refl
mirror_farther Greater = refl

mirror_nearer : (o : Ordering) → mirror (nearer_by o) ≡ farther_by o
mirror_nearer Less = refl
mirror_nearer Equal = refl
mirror_nearer Greater = refl

mirror_34 : (a b : ComparisonDataset) → mirror (figure34 a b) ≡ figure34 b a
unfolding figure34
mirror_34 a b = mirror-quality (lex (quality_row a) (quality_row b)) ∙ ap by_quality (sym (lex-flip (quality_row a) (quality_row b)))

mirror_35 : (a b : ComparisonDataset) → mirror (figure35 a b) ≡ figure35 b a
mirror_35 a b = go (gap a.steps_removed b.steps_removed)
  where
    go : Gap a.steps_removed b.steps_removed → mirror (figure35 a b) ≡ figure35 b a
    go (two-more h) = rw (far-above a b h, far-below b a h)
    go (one_more h k) = rw (above a b h k, below b a h k) (mirror_farther (cmp a.identity_of_receiver.clock_identity a.identity_of_senders))
    go (as_many h k) = rw (level a b h k, level b a k h, lex-flip (topology_row a) (topology_row b)) (mirror_topology (lex (topology_row a) (topology_row b)))
    go (one_less h k) = rw (below a b h k, above b a h k) (mirror_nearer (cmp b.identity_of_receiver.clock_identity b.identity_of_senders))
    go (two_less h) = rw (far-below a b h, far-above b a h)

-- Swapping the two sides of any comparison gives the mirrored verdict.
pub mirror_law : (a b : ComparisonDataset) → mirror (compare_of a b) ≡ compare_of b a
mirror_law a b = go (ℕ_discrete a.gm_identity b.gm_identity)
  where
    go : Dec (a.gm_identity ≡ b.gm_identity) → mirror (compare_of a b) ≡ compare_of b a
    go (yes e) = rw (same-grandmaster a b e, same-grandmaster b a (sym e)) (mirror_35 a b)
    go (no n) = rw (other-grandmaster a b n, other-grandmaster b a (λ e. n (sym e))) (mirror_34 a b)
