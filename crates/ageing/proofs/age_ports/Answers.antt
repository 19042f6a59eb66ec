-- `ageing::age_ports` meets its contract. Assumes nothing.
use Rattle.std.proofs.Common.{◌≡◌, ℕ, ◌+◌, ◌-◌, List, get_or, take, drop, refl, ap, ◌∙◌, ap₂, add-one, arith}
use Rattle.wire.specs.Be.{put}
use Rattle.slot.specs.Blocks.{block, length-block, part-block, lent-block}
use Rattle.book.specs.Layout.{port_words, port_at}
use Rattle.book.proofs.Rules.{held, port-held}
use Rattle.ageing.specs.Age.{aged_port, gone_port, aged_ports_to, gone_ports_to, aged_store, aged_out}
use Rattle.ageing.specs.StoreView.{aged-ports, rings_fit}
use Rattle.ageing.proofs.age_ports.Goals as goal

pub loop-q-init : goal.loop-q-init
loop-q-init c = ((held c.args.store.now c.requires.1).ports, omega arith, refl, refl)

pub age_port-all-requires : goal.age_port-all-requires
age_port-all-requires c =
    let l = c.loop-q in
    let a = c.args in
    let s = a.store.now in
    let at = port_at l.q in
    let sound = c.requires.1 in
    let here : take (at + port_words - at) (drop at l.store) ≡ block s at port_words =
    part-block l.store at port_words
    ∙ ap (λ (t : List ℕ). block t at port_words) l.invariant.3
    ∙ (aged-ports a.step s c.requires.0 sound l.q (omega arith)).later l.q (omega arith) (omega arith) in
    rw here (
      length-block s at port_words (omega arith),
      (port-held s sound l.q (omega arith)).masters,
      (port-held s sound l.q (omega arith)).interval,
      rings_fit s sound l.q (omega arith),
    )

pub loop-q-preserved : goal.loop-q-preserved
loop-q-preserved c =
    let l = c.loop-q in
    let a = c.args in
    let at = port_at l.q in
    let call = c.age_port-all in
    let back = lent-block (aged_port a.step) l.store call.new.port at port_words (omega arith) call.auto.port call.ensures.1 in
    let here = ap (gone_port a.step) (part-block l.store at port_words ∙ ap (λ (t : List ℕ). block t at port_words) l.invariant.3) in (
      l.invariant.0,
      omega arith,
      rw add-one (ap₂ (λ (x y : ℕ). x + y) l.invariant.2 (call.ensures.0 ∙ here)),
      rw add-one (back ∙ ap (λ (t : List ℕ). put t at (aged_port a.step (block t at port_words))) l.invariant.3),
    )

pub returns : goal.returns
unfolding aged_store aged_out
returns c =
    let l = c.loop-q in
    let a = c.args in
    let e : l.q ≡ get_or a.store.now 0 0 = omega arith in
    record {
      value = (
        l.invariant.2 ∙ ap (λ (n : ℕ). gone_ports_to a.step n a.store.now) e,
        l.invariant.3 ∙ ap (λ (n : ℕ). aged_ports_to a.step n a.store.now) e,
      );
      upper_bound = omega arith;
    }
