-- `candidate_words::all_fit` meets its contract. The loop's invariant: what is still to be looked at decides.
-- Assumes nothing.
use Prim.Native.Nat.{ℕ, ◌≤◌, ◌<◌, ◌+◌, ◌-◌, ◌*◌}
use mathlib.Core.Path.{◌≡◌, sym, ap, ◌∙◌}
use mathlib.Core.Bool.{Bool, ◌&&◌}
use native.Mathlib.Omega.{arith}
use lib.ListN.{take, drop}
use Rattle.candidate_words.specs.Words.{fits_candidate}
use Rattle.candidate_words.proofs.Laws.{rest_fits, fits_all_lem, fits_next, fits-end}
use Rattle.candidate_words.proofs.all_fit.Goals as goal

pub loop-i-init : goal.loop-i-init
loop-i-init c =
    let a = c.args in
    fits_all_lem a.n a.s.now

pub returns-then-not-within : goal.returns-then-not-within
returns-then-not-within c =
    let a = c.args in
    let ws = a.s.now in
    let i = c.loop-i.i in
    let inv = c.loop-i.invariant in
    let lt : i < a.n = omega arith in
    let twelve : i * 12 + 12 - i * 12 ≡ 12 = omega arith in
    let one : c.within.result ≡ fits_candidate (take 12 (drop (i * 12) ws)) = c.within.ensures ∙ ap (λ (k : ℕ). fits_candidate (take k (drop (i * 12) ws))) twelve in
    sym (inv ∙ fits_next a.n i ws lt ∙ ap (λ (t : Bool). t && rest_fits a.n (i + 1) ws) (sym one ∙ c.if-not-within.true))

pub loop-i-preserved : goal.loop-i-preserved
loop-i-preserved c =
    let a = c.args in
    let ws = a.s.now in
    let i = c.loop-i.i in
    let inv = c.loop-i.invariant in
    let lt : i < a.n = omega arith in
    let twelve : i * 12 + 12 - i * 12 ≡ 12 = omega arith in
    let one : c.within.result ≡ fits_candidate (take 12 (drop (i * 12) ws)) = c.within.ensures ∙ ap (λ (k : ℕ). fits_candidate (take k (drop (i * 12) ws))) twelve in
    inv ∙ fits_next a.n i ws lt ∙ ap (λ (t : Bool). t && rest_fits a.n (i + 1) ws) (sym one ∙ c.if-not-within.false)

pub returns : goal.returns
returns c =
    let a = c.args in
    let i = c.loop-i.i in
    let inv = c.loop-i.invariant in
    let le : a.n ≤ i = omega arith in
    sym (inv ∙ fits-end a.n i a.s.now le)
