-- `answers::put_ports` meets its contract. The loop's invariant: the states so far stand from word 4 on.
-- Assumes nothing.
use Prim.Native.Nat.{ℕ, ◌+◌, ◌*◌, ◌<◌, ◌≤◌}
use mathlib.Core.Path.{◌≡◌, refl, sym, ap, ◌∙◌}
use mathlib.Core.List.{List}
use native.Mathlib.Numerals.{add-one}
use native.Mathlib.Omega.{arith}
use borrow.Author.Rules.{rules}
use lib.ListN.{length, take, get_or}
use lib.Seq.{take-length}
use Rattle.wire.specs.Be.{put}
use Rattle.wire.proofs.BeLaws.{put-nil}
use Rattle.answers.specs.Answers.{state_words, ports_words}
use Rattle.states.specs.declared.PortAnswer.{PortAnswer}
use Rattle.answers.proofs.Laws.{length-next, put-next-state}
use Rattle.answers.proofs.put_ports.Goals as goal

pub loop-i-init : goal.loop-i-init
unfolding ports_words
loop-i-init c = (refl, sym (put-nil _ 4))

pub loop-i-preserved : goal.loop-i-preserved
loop-i-preserved c =
    let a = c.args in
    let s = a.s.now in
    let xs = a.answers in
    let i = c.loop-i.i in
    let inv = c.loop-i.invariant in
    let t = c.loop-i.s in
    let made = c.put_state.ensures in
    let lt : i < 8 = omega arith in
    let eight : length xs ≡ 8 = search rules in
    let room : 180 ≤ length t = omega (arith, c.requires, inv.0) in
    let l = ap length made ∙ length-next xs eight i lt t _ room in (
      l ∙ inv.0,
      made
          ∙ ap (λ (u : List ℕ). put u (4 + i * 22) (state_words (get_or xs i _).state)) inv.1
          ∙ rw add-one (put-next-state xs eight i lt s _ c.requires),
    )

pub returns : goal.returns
returns c =
    let a = c.args in
    let xs = a.answers in
    let inv = c.loop-i.invariant in
    let eight : length xs ≡ 8 = search rules in
    let e : c.loop-i.i ≡ length xs = omega (arith, eight) in
    record { s_after = inv.1 ∙ ap (λ (n : ℕ). put a.s.now 4 (ports_words (take n xs))) e ∙ ap (λ (l : List PortAnswer). put a.s.now 4 (ports_words l)) (take-length xs); answers_len = eight }
