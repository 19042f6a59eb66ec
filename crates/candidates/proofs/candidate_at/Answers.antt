-- `candidates::candidate_at` meets its contract. Assumes nothing.
use mathlib.Core.Path.{ap, ◌∙◌}
use native.Mathlib.Omega.{arith}
use borrow.Author.Tests.{leb-true}
use lib.ListN.{get_or}
use Rattle.choice.specs.Candidate.{candidate_of}
use Rattle.offers.specs.Offers.{master_in, offers_at, best_at}
use Rattle.candidates.proofs.Steps.{place-right}
use Rattle.candidates.proofs.candidate_at.Goals as goal

pub best_at-requires : goal.best_at-requires
best_at-requires c =
    let a = c.args in
    let p = a.port.now in
    let i = c.place_of.result in
    let r = place-right (offers_at p) (get_or p 1 0) a.k c.requires.2 in
    let two = leb-true 2 (get_or (master_in p i) 3 0) (ap (offers_at p) c.place_of.ensures ∙ r.1) in
    (c.requires.0, omega (arith, c.place_of.ensures, r.0, c.requires.1), omega (arith, two))

pub returns : goal.returns
returns c =
    let a = c.args in
    c.candidate.ensures
    ∙ ap (λ b. candidate_of b a.place) (c.best_at.ensures ∙ ap (best_at a.receiver a.port.now) c.place_of.ensures)
