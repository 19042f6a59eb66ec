-- `candidates::candidate_in` meets its contract. Assumes nothing.
use Prim.Native.Nat.{◌+◌, ◌<◌}
use mathlib.Core.Path.{ap, ◌∙◌}
use native.Mathlib.Omega.{arith}
use lib.ListN.{length, get_or}
use Rattle.std.specs.Prelude.{Some}
use Rattle.choice.specs.Candidate.{candidate_of}
use Rattle.slot.specs.Blocks.{part-block, length-block}
use Rattle.book.specs.Layout.{port_words, port_at, identity}
use Rattle.book.proofs.Rules.{held, port-held}
use Rattle.offers.specs.Offers.{offering, best_at}
use Rattle.candidates.specs.Candidates.{place_of}
use Rattle.candidates.specs.View.{port_in}
use Rattle.candidates.proofs.Steps.{receiver-word, left-start, left-next, left-found, left-none}
use Rattle.candidates.proofs.candidate_in.Goals as goal

pub loop-q-init : goal.loop-q-init
loop-q-init c =
    let a = c.args in
    ((held a.store.now c.requires.1).ports, left-start a.store.now a.k)

pub count_offers-here-requires : goal.count_offers-here-requires
count_offers-here-requires c =
    let s = c.args.store.now in
    let q = c.loop-q.q in
    rw part-block (length-block s (port_at q) port_words (omega arith), (port-held s c.requires.1 q (omega arith)).masters)

pub candidate_at-requires : goal.candidate_at-requires
candidate_at-requires c =
    let s = c.args.store.now in
    let q = c.loop-q.q in
    let f = c.count_offers-here in
    let few : c.loop-q.left < length (offering (port_in s q)) = omega (arith, c.if-left-here.true, f.ensures ∙ ap (λ p. length (offering p)) (part-block s (port_at q) port_words)) in
    rw part-block (length-block s (port_at q) port_words (omega arith), (port-held s c.requires.1 q (omega arith)).masters, few)

pub returns-then-left-here : goal.returns-then-left-here
returns-then-left-here c =
    let a = c.args in
    let s = a.store.now in
    let l = c.loop-q in
    let n = c.count_offers-here.ensures ∙ ap (λ p. length (offering p)) (part-block s (port_at l.q) port_words) in
    ap Some
    (c.candidate_at.ensures
    ∙ ap (λ p. candidate_of (best_at (identity (get_or s 1 0) (l.q + 1)) p (place_of p l.left)) a.k) (part-block s (port_at l.q) port_words)
    ∙ ap (λ r. candidate_of (best_at r (port_in s l.q) (place_of (port_in s l.q) l.left)) a.k) (receiver-word s (l.q + 1)))
    ∙ left-found s a.k l.q l.left l.invariant.1 (omega arith) (omega (arith, n, c.if-left-here.true))

pub loop-q-preserved : goal.loop-q-preserved
loop-q-preserved c =
    let a = c.args in
    let s = a.store.now in
    let l = c.loop-q in
    let n = c.count_offers-here.ensures ∙ ap (λ p. length (offering p)) (part-block s (port_at l.q) port_words) in
    (l.invariant.0, left-next s a.k l.q l.left l.invariant.1 c.count_offers-here.result n (omega arith) c.if-left-here.false)

pub returns : goal.returns
returns c =
    let a = c.args in
    let l = c.loop-q in
    left-none a.store.now a.k l.q l.left l.invariant.1 (omega arith)
