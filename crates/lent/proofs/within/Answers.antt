-- `lent::within` meets its contract: the pairs that the test is made on are those that the definition compares.
-- Assumes nothing.
use Rattle.std.proofs.Common.{◌∙◌, rules, tests, leb}
use Rattle.std.proofs.lemmas.Iterator.{YieldsList-from_slice, YieldsList-from_zip}
use Rattle.std.proofs.lemmas.Iterator.Search.{all_from_yields_List}
use Rattle.lent.specs.Laws.{within-zip}
use Rattle.lent.proofs.within.Goals as goal

pub returns : goal.returns
returns c =
    let ws = c.args.words.now in
    let ls = c.args.limits.now in
    all_from_yields_List (λ p. leb p.1 p.0) c.all.new.self _ c.all.result c.all.ensures.ran
    (YieldsList-from_zip {s = c.zip.result} (YieldsList-from_slice {s = c.zip.result.a} ls cc) (YieldsList-from_slice {s = c.zip.result.b} ws cc)) (λ x b q k. search (rules, tests))
    ∙ within-zip ws ls c.requires
