-- `quality_standing` meets its contract: the numbers in their order are the rows.
-- Assumes nothing.
use Rattle.std.proofs.Common.{◌∙◌}
use Rattle.order.specs.Rows.{cmp-library}
use Rattle.compare.proofs.Laws.{then-words, quality-row}
use Rattle.compare.proofs.ComparisonDataset.quality_standing.Goals as goal

pub returns : goal.returns
returns c =
    let a = c.args.self in
    let b = c.args.other in
    let p = a.gm_clock_quality in
    let q = b.gm_clock_quality in
    let first = then-words (cmp-library a.gm_priority_1 b.gm_priority_1) (cmp-library p.clock_class q.clock_class) in
    let second = then-words first (cmp-library p.clock_accuracy q.clock_accuracy) in
    let third = then-words second (cmp-library p.offset_scaled_log_variance q.offset_scaled_log_variance) in
    let fourth = then-words third (cmp-library a.gm_priority_2 b.gm_priority_2) in
    let fifth = then-words fourth (cmp-library a.gm_identity b.gm_identity) in
    c.cmp.ensures ∙ fifth ∙ quality-row a b
