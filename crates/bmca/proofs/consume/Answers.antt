-- `bmca::consume` meets its contract. The loop's invariant: the first ports are decided.
-- Assumes nothing.
use native.Mathlib.Omega.{arith}
use Prim.Native.Nat.{ℕ, ◌+◌, ◌-◌, ◌<◌}
use mathlib.Core.Path.{◌≡◌, refl, sym, ap, ap₂, ◌∙◌}
use mathlib.Core.List.{List}
use native.Mathlib.Numerals.{add-one}
use borrow.Rule.Slice.PartMut.{same_len_mid}
use lib.ListN.{take, drop, get_or}
use Rattle.wire.specs.Be.{put}
use Rattle.slot.specs.Blocks.{block, length-block, part-block, lent-block}
use Rattle.book.specs.Layout.{port_words, port_at}
use Rattle.book.proofs.Rules.{held, port-held}
use Rattle.erbest.specs.Place.{winner_place}
use Rattle.consumption.specs.Consume.{consumed_in, gone_in}
use Rattle.bmca.specs.Decide.{decided_port, gone_port, decided_to, gone_to, decided_store, gone_store}
use Rattle.bmca.proofs.Words.{decided-ports}
use Rattle.bmca.proofs.Planned.{winner_in}
use Rattle.bmca.proofs.consume.Goals as goal

pub loop-q-init : goal.loop-q-init
loop-q-init c =
    let start = c in
    ((held start.args.store.now start.requires.1).ports, refl, omega arith, refl, refl)

pub consume_port-gone-requires : goal.consume_port-gone-requires
consume_port-gone-requires c =
    let l = c.loop-q in
    let start = c in
    let s = start.args.store.now in
    let at = port_at l.q in
    let here : take (at + port_words - at) (drop at l.store) ≡ block s at port_words =
    part-block l.store at port_words
    ∙ ap (λ (t : List ℕ). block t at port_words) l.invariant.4
    ∙ (decided-ports s start.requires.0 start.requires.1 l.q (omega arith)).later l.q (omega arith) (omega arith) in
    rw here (length-block s at port_words (omega arith), (port-held s start.requires.1 l.q (omega arith)).masters)

pub loop-q-preserved : goal.loop-q-preserved
loop-q-preserved c =
    let l = c.loop-q in
    let start = c in
    let s = start.args.store.now in
    let q = l.q in
    let at = port_at q in
    let call = c.consume_port-gone in
    let below : q < get_or s 0 0 = omega arith in
    let part : List ℕ = take (at + port_words - at) (drop at l.store) in
    let there : part ≡ block (decided_to q s) at port_words =
    part-block l.store at port_words ∙ ap (λ (t : List ℕ). block t at port_words) l.invariant.4 in
    let here : part ≡ block s at port_words =
    there ∙ (decided-ports s start.requires.0 start.requires.1 q (omega arith)).later q (omega arith) (omega arith) in
    let winner : get_or start.args.winners q 0 ≡ winner_place part =
    ap (λ (ws : List ℕ). get_or ws q 0) start.requires.2 ∙ winner_in s q 0 below ∙ ap winner_place (sym here) in
    let back = lent-block decided_port l.store call.new.port at port_words (omega arith) call.auto.port (call.ensures.0 ∙ ap (λ (n : ℕ). consumed_in n part) winner) in (
      l.invariant.0,
      same_len_mid at (at + port_words - at) l.store call.new.port call.auto.port ∙ l.invariant.1,
      omega (arith, call.ensures.2),
      rw add-one (ap₂ (λ (x y : ℕ). x + y) l.invariant.3 (call.ensures.1 ∙ ap (λ (n : ℕ). gone_in n part) winner ∙ ap gone_port there)),
      rw add-one (back ∙ ap (λ (t : List ℕ). put t at (decided_port (block t at port_words))) l.invariant.4),
    )

pub returns : goal.returns
unfolding decided_store gone_store
returns c =
    let l = c.loop-q in
    let s = c.args.store.now in
    let e : l.q ≡ get_or s 0 0 = omega arith in
    (l.invariant.4 ∙ ap (λ (n : ℕ). decided_to n s) e, l.invariant.3 ∙ ap (λ (n : ℕ). gone_to n s) e)

pub shape_of-store : goal.shape_of-store
shape_of-store c = c.loop-q.invariant.1
