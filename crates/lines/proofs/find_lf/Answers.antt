-- `lines::find_lf` meets its contract: the first LF of the rest, or none in it. Assumes nothing.
use Rattle.std.proofs.Common.{◌≡◌, ◌+◌, ◌∙◌, length, drop, arith, rules, tests, sym, get_or-drop, length-drop}
use lib.Seq.{take_all}
use Rattle.std.proofs.lemmas.Iterator.{YieldsList-from_slice, IsFirst-from_position}
use Rattle.lines.proofs.Turns.{plain_from}
use Rattle.lines.proofs.find_lf.Goals as goal

pub returns-in-Some : goal.returns-in-Some
returns-in-Some c =
    let a = c.args in
    let rest = drop a.from a.piece.now in
    let found =
    IsFirst-from_position c.position.new.self _ c.position.result (λ b. b ≡ 10) (λ b. b ≡ 10 → ⊥) c.position.ensures.ran
    (YieldsList-from_slice {s = c.iter.result} rest (c.iter.ensures.rest ∙ take_all _ rest (omega (arith, length-drop a.from a.piece.now)))) (λ x q k. search (rules, tests)) (λ x q k. search (rules, tests)) in
    let f = rw c.in-Some.is at found in
    (omega arith, omega (arith, f.0, length-drop a.from a.piece.now), plain_from a.piece.now a.from c.in-Some.n f.2, λ h. sym (get_or-drop a.from a.piece.now c.in-Some.n 0) ∙ f.1 0)

pub returns-in-None : goal.returns-in-None
returns-in-None c =
    let a = c.args in
    let rest = drop a.from a.piece.now in
    let found =
    IsFirst-from_position c.position.new.self _ c.position.result (λ b. b ≡ 10) (λ b. b ≡ 10 → ⊥) c.position.ensures.ran
    (YieldsList-from_slice {s = c.iter.result} rest (c.iter.ensures.rest ∙ take_all _ rest (omega (arith, length-drop a.from a.piece.now)))) (λ x q k. search (rules, tests)) (λ x q k. search (rules, tests)) in
    let f = rw c.in-None.is at found in
    let e : a.from + length rest ≡ length a.piece.now = omega (arith, c.requires, length-drop a.from a.piece.now) in
    (omega arith, omega arith, rw e at (plain_from a.piece.now a.from (length rest) f), λ h. absurd (omega (arith, h)))
