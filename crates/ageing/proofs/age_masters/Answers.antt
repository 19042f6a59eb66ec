-- `ageing::age_masters` meets its contract. Assumes nothing.
use Rattle.std.proofs.Common.{◌≡◌, ℕ, ◌+◌, ◌-◌, List, get_or, take, drop, ap, ◌∙◌, ap₂, add-one, arith}
use Rattle.wire.specs.Be.{put}
use Rattle.slot.specs.Blocks.{block, length-block, part-block, lent-block}
use Rattle.book.specs.Layout.{master_words, master_at}
use Rattle.ageing.specs.Age.{gone, aged_master, gone_to, aged_to}
use Rattle.ageing.specs.AgeLaws.{aged-later}
use Rattle.ageing.proofs.age_masters.Goals as goal

pub age_master-out-requires : goal.age_master-out-requires
age_master-out-requires c =
    let l = c.loop-i in
    let a = c.args in
    let p = a.port.now in
    let here : take (master_at l.i + master_words - master_at l.i) (drop (master_at l.i) l.port) ≡ block p (master_at l.i) master_words =
    part-block l.port (master_at l.i) master_words
    ∙ ap (λ (q : List ℕ). block q (master_at l.i) master_words) l.invariant.2
    ∙ aged-later a.step a.limit p c.requires.0 l.i l.i (omega arith) (omega arith) in
    rw here (length-block p (master_at l.i) master_words (omega arith), c.requires.2 l.i (omega arith))

pub loop-i-preserved : goal.loop-i-preserved
loop-i-preserved c =
    let l = c.loop-i in
    let a = c.args in
    let at = master_at l.i in
    let call = c.age_master-out in
    let back = lent-block (aged_master a.step a.limit) l.port call.new.master at master_words (omega arith) call.auto.master call.ensures.1 in
    let here = ap (gone a.step a.limit) (part-block l.port at master_words ∙ ap (λ (p : List ℕ). block p at master_words) l.invariant.2) in (
      omega arith,
      rw add-one (ap₂ (λ (x y : ℕ). x + y) l.invariant.1 (call.ensures.0 ∙ here)),
      rw add-one (back ∙ ap (λ (p : List ℕ). put p at (aged_master a.step a.limit (block p at master_words))) l.invariant.2),
    )

pub returns : goal.returns
returns c =
    let l = c.loop-i in
    let a = c.args in
    let e : l.i ≡ get_or a.port.now 1 0 = omega arith in (
      l.invariant.1 ∙ ap (λ (n : ℕ). gone_to a.step a.limit n a.port.now) e,
      l.invariant.2 ∙ ap (λ (n : ℕ). aged_to a.step a.limit n a.port.now) e,
      omega arith,
    )
