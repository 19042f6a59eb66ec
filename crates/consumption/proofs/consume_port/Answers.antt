-- `consumption::consume_port` meets its contract. Assumes nothing.
use native.Mathlib.Omega.{arith}
use Prim.Native.Nat.{ℕ, ◌+◌}
use mathlib.Core.Path.{◌≡◌, ap, ap₂, ◌∙◌}
use mathlib.Core.Bool.{Bool, cond}
use mathlib.Core.List.{List}
use native.Mathlib.Numerals.{add-one}
use lib.ListN.{get_or}
use Rattle.consumption.specs.Consume.{consumed_at, gone_at, consumed_below, gone_below, consumed_in, gone_in}
use Rattle.consumption.proofs.Words.{below-loses}
use Rattle.consumption.proofs.consume_port.Goals as goal

pub loop-i-preserved : goal.loop-i-preserved
loop-i-preserved c =
    let l = c.loop-i in
    let w = c.args.winner in
    let p = c.args.port.now in
    let call = c.consume_one-gone in
    let same = ap (λ (q : List ℕ). gone_at w q l.i) l.invariant.1 ∙ ap (λ (b : Bool). cond b 1 0) (below-loses w p l.i) in (
      omega arith,
      rw add-one (call.ensures.0 ∙ ap (consumed_at w l.i) l.invariant.1),
      rw add-one (ap₂ (λ (x y : ℕ). x + y) l.invariant.2 (call.ensures.1 ∙ same)),
    )

pub returns : goal.returns
unfolding consumed_in gone_in
returns c =
    let l = c.loop-i in
    let a = c.args in
    let e : l.i ≡ get_or a.port.now 1 0 = omega arith in (
      l.invariant.1 ∙ ap (λ (n : ℕ). consumed_below a.winner n a.port.now) e,
      l.invariant.2 ∙ ap (λ (n : ℕ). gone_below a.winner n a.port.now) e,
      omega arith,
    )
