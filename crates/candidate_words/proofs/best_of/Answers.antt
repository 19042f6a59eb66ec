-- `candidate_words::best_of` meets its contract. The loop's invariant: the choice over all is that over the one held and those to come.
-- Assumes nothing.
use Prim.Native.Nat.{ℕ, ◌≤◌, ◌<◌, ◌+◌, ◌-◌, ◌*◌}
use mathlib.Core.Path.{◌≡◌, sym, ap, ◌∙◌}
use native.Mathlib.Omega.{arith}
use lib.ListN.{take, drop, length-take, length-drop}
use Rattle.std.specs.Prelude.{Option, None}
use Rattle.choice.specs.declared.Candidate.{Candidate}
use Rattle.choice.specs.Candidate.{keep_all, keep_best}
use Rattle.choice.proofs.Steps.{steps-winner}
use Rattle.candidate_words.specs.Words.{candidate_in, candidates_in}
use Rattle.candidate_words.proofs.Laws.{rest_of, rest_all, rest-next, rest_end}
use Rattle.candidate_words.proofs.best_of.Goals as goal

pub loop-i-init : goal.loop-i-init
loop-i-init c =
    let a = c.args in
    ap (keep_all None) (rest_all a.n a.s.now)

pub candidate_of-requires : goal.candidate_of-requires
candidate_of-requires c = simp (length-take, length-drop) (omega (arith, c.requires))

pub loop-i-preserved : goal.loop-i-preserved
loop-i-preserved c =
    let a = c.args in
    let ws = a.s.now in
    let i = c.loop-i.i in
    let held = c.loop-i.held in
    let inv = c.loop-i.invariant in
    let lt : i < a.n = omega arith in
    let twelve : i * 12 + 12 - i * 12 ≡ 12 = omega arith in
    let made : c.candidate_of.result ≡ candidate_in (take 12 (drop (i * 12) ws)) = c.candidate_of.ensures ∙ ap (λ (k : ℕ). candidate_in (take k (drop (i * 12) ws))) twelve in
    inv
    ∙ ap (keep_all held) (rest-next a.n i ws lt)
    ∙ sym (ap (λ (b : Option Candidate). keep_all b (rest_of a.n (i + 1) ws)) (c.keep-held.ensures ∙ ap (keep_best held) made))

pub returns : goal.returns
returns c =
    let a = c.args in
    let ws = a.s.now in
    let i = c.loop-i.i in
    let held = c.loop-i.held in
    let inv = c.loop-i.invariant in
    let le : a.n ≤ i = omega arith in
    sym (ap (keep_all held) (rest_end a.n i ws le)) ∙ sym inv ∙ steps-winner (candidates_in a.n ws)
