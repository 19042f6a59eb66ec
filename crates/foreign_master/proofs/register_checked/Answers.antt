-- `foreign_master::register_checked` meets its contract. Assumes nothing.
use native.Mathlib.Omega.{arith}
use Prim.Native.Nat.{ℕ, ◌+◌, ◌<◌}
use mathlib.Core.Path.{◌≡◌, sym, ap, ◌∙◌}
use mathlib.Core.List.{List}
use mathlib.Core.Logic.{◌⊎◌, inl, inr, ⊎_elim}
use lib.ListN.{get_or}
use Rattle.std.proofs.lemmas.Result.{err_from_is_err_and}
use Rattle.refused.specs.Refusal.{number_in}
use Rattle.frame.specs.Frame.{read_frame}
use Rattle.slot.specs.Slot.{narrow}
use Rattle.book.proofs.Rules.{checked}
use Rattle.foreign_master.specs.Calls.{register_call, taken_in, frame_of, held_of}
use Rattle.foreign_master.proofs.Steps.{refused-first, no-port, whole_frame, port-below, port-refused, port-taken}
use Rattle.foreign_master.proofs.register_checked.Goals.{then-port-eq0-via-then-port-eq0, then-port-eq0-via-else-port-eq0+then-store-port}
use Rattle.foreign_master.proofs.register_checked.Goals as goal

-- a port that is 0 or above the count is none of the store's
none : (s : List ℕ) (p : ℕ) → (p ≡ 0) ⊎ (get_or s 0 0 < p) → (j : ℕ) → j < get_or s 0 0 → p ≡ 1 + j → ⊥
none s p h j l e = ⊎_elim (λ z. omega arith) (λ z. omega arith) h

pub returns-in_err-checked : goal.returns-in_err-checked
returns-in_err-checked c =
    let a = c.args in
    let p = err_from_is_err_and c.from_residual.result c.from_residual.ensures.1 in
    let both = refused-first a.store.now (register_call a.port a.frame.now) (taken_in a.store.now a.port (frame_of (read_frame a.frame.now)))
    _ (ap number_in (sym c.in_err-checked.was) ∙ c.requires) in
    record { value = rw (p.1, p.2) both.0; store_after = both.1 }

pub bounds-store-0 : goal.bounds-store-0
bounds-store-0 c =
    let s = checked c.args.store.now (sym c.requires ∙ ap number_in c.in_ok-checked.was) in
    omega (arith, s.room)

pub returns-then-port-eq0 : goal.returns-then-port-eq0
returns-then-port-eq0 c =
    let a = c.args in
    let over : (a.port ≡ 0) ⊎ (get_or a.store.now 0 0 < a.port) =
    elim c.then-port-eq0.branch [
      | then-port-eq0-via-then-port-eq0 w ↦ inl w.if-port-eq0.true
      | then-port-eq0-via-else-port-eq0+then-store-port w ↦ inr w.if-store-port.true
    ] in
    let both = no-port a.store.now a.frame.now (sym c.requires ∙ ap number_in c.in_ok-checked.was) a.port (none a.store.now a.port over) in
    record { value = both.0; store_after = both.1 }

pub returns-in_err-message : goal.returns-in_err-message
returns-in_err-message c =
    let a = c.args in
    let from = c.from_residual-in_err-message in
    let p = err_from_is_err_and from.result from.ensures.1 in
    let both = port-refused a.store.now a.frame.now (sym c.requires ∙ ap number_in c.in_ok-checked.was) a.port c.if-port-eq0.false c.if-store-port.false _ (sym c.in_err-message.ensures) in
    record { value = rw (p.1, p.2) both.0; store_after = both.1 }

pub register_at-requires : goal.register_at-requires
register_at-requires c =
    let a = c.args in
    let checks = sym c.requires ∙ ap number_in c.in_ok-checked.was in
    let s = checked a.store.now checks in
    record {
      store_words_in_bounds = ((s.room, s.sound), port-below a.store.now a.frame.now checks a.port c.if-port-eq0.false c.if-store-port.false);
      narrow = narrow (held_of _) (whole_frame a.frame.now _ (λ i. (c.type_inv.frame i).fits) (sym c.in_ok-message.ensures));
    }

pub returns : goal.returns
returns c =
    let a = c.args in
    let w = c.register_at.ensures in
    let t = port-taken a.store.now a.frame.now (sym c.requires ∙ ap number_in c.in_ok-checked.was) a.port c.if-port-eq0.false c.if-store-port.false
    _ (λ i. (c.type_inv.frame i).fits) (sym c.in_ok-message.ensures) in
    record { value = w.0 ∙ t.0; store_after = w.1 ∙ t.1 }
