-- `log_decision::above` meets its contract: eight bits or more leave nothing of a byte. Assumes nothing.
use Rattle.std.proofs.Common.{◌≡◌, ℕ, ◌/◌, ◌^◌, ◌<◌, ◌≤◌, Bool, true, false, refl, sym, ap, arith, ltb, ltb-false, ◌∙◌}
use Rattle.std.specs.Prelude.{if◌then◌else◌}
use Rattle.std.proofs.Math.Nat.{div-eq_of_lt, pow-le-pow_right}
use Rattle.log_decision.proofs.above.Goals as goal

shifted : (b n : ℕ) → b < 256 → (t : Bool) → ltb n 8 ≡ t → (if t then b / 2 ^ n else 0) ≡ b / 2 ^ n
shifted b n h true e = refl
shifted b n h false e =
    let p : 2 ^ 8 ≤ 2 ^ n = pow-le-pow_right {n = 2} (omega arith) (ltb-false n 8 e) in
    sym (div-eq_of_lt (omega (arith, h, p)))

pub returns : goal.returns
returns c =
    let a = c.args in
    c.unbounded_shr.ensures ∙ ap (λ (n : ℕ). if ltb n 8 then a.listening / 2 ^ n else 0) c.from.ensures ∙ shifted a.listening a.count c.ranges.listening.fits (ltb a.count 8) refl
