-- `ageing::pack_one` meets its contract. Assumes nothing.
use Rattle.std.proofs.Common.{◌≡◌, ℕ, sym, ap, ◌∙◌, arith}
use Rattle.slot.specs.Blocks.{block, put-block}
use Rattle.wire.specs.Be.{put}
use Rattle.book.specs.Layout.{master_words, master_at}
use Rattle.ageing.specs.AgeLaws.{is-empty, not-empty, pack-empty, pack-moves}
use Rattle.ageing.proofs.pack_one.Goals.{then-next-i, else-next-i}
use Rattle.ageing.proofs.pack_one.Goals as goal

pub returns-then-port-i-lt1-clause-result_after : goal.returns-then-port-i-lt1-clause-result_after
returns-then-port-i-lt1-clause-result_after c =
    let a = c.args in
    pack-empty a.i (record { words = a.port.now; next = a.next }) (is-empty a.port.now a.i c.if-port-i-lt1.true)

pub returns-clause-result_after : goal.returns-clause-result_after
returns-clause-result_after c =
    let a = c.args in
    let p = a.port.now in
    let words : c.if-next-i.port ≡ put p (master_at a.next) (block p (master_at a.i) master_words) =
    elim c.if-next-i.branch [
      | then-next-i w ↦ w.port-is ∙ w.move_master.ensures
      | else-next-i w ↦
          let e : a.i ≡ a.next = omega (arith, w.if-next-i.false) in
          w.port-is ∙ sym (put-block p (master_at a.i) master_words (omega arith)) ∙ ap (λ (k : ℕ). put p (master_at k) (block p (master_at a.i) master_words)) e
    ] in
    pack-moves a.i (record { words = p; next = a.next }) c.if-next-i.port (not-empty p a.i c.if-port-i-lt1.false) words
