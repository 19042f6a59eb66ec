-- `fresh::begin` meets its contract. Assumes nothing.
use native.Mathlib.Omega.{arith}
use Prim.Native.Nat.{ℕ}
use mathlib.Core.Path.{◌≡◌, sym, ap, ◌∙◌}
use Rattle.wire.specs.Be.{put}
use Rattle.wire.proofs.BeLaws.{put-nil}
use Rattle.book.specs.Below.{tab}
use Rattle.book.specs.Layout.{store_words}
use Rattle.fresh.specs.Fresh.{site_with, fresh_word, begun}
use Rattle.fresh.specs.Words.{put-more}
use Rattle.fresh.proofs.begin.Goals as goal

pub loop-w-init : goal.loop-w-init
loop-w-init c = sym (put-nil c.args.store.now 0)

pub loop-w-preserved : goal.loop-w-preserved
loop-w-preserved c =
    let a = c.args in
    let l = c.loop-w in
    let f : ℕ → ℕ = fresh_word (site_with a.own a.any a.listed.now) a.intervals.now in
    put-more a.store.now f l.w l.store c.fresh_word.result l.invariant c.fresh_word.ensures (omega arith)

pub returns : goal.returns
unfolding begun
returns c =
    let a = c.args in
    let f : ℕ → ℕ = fresh_word (site_with a.own a.any a.listed.now) a.intervals.now in
    let e : c.loop-w.w ≡ store_words = omega arith in
    c.loop-w.invariant ∙ ap (λ (n : ℕ). put a.store.now 0 (tab n f)) e
