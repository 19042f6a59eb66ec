-- `tlv::list_check` meets its contract. The invariant: the check of the rest is the check of the whole. The measure is the length of the rest.
-- Assumes nothing.
use Prim.Native.Nat.{ℕ, ◌-◌, ◌<◌, ◌≤◌}
use mathlib.Core.Path.{◌≡◌, sym, ◌∙◌, ap}
use mathlib.Core.List.{List}
use native.Mathlib.Omega.{arith}
use lib.ListN.{length, take, drop, length-drop}
use lib.Seq.{take_all}
use Rattle.std.specs.Prelude.{Result, Ok, Err}
use Rattle.std.proofs.lemmas.Result.{err_from_is_err_and}
use Rattle.refused.specs.declared.Refusal.{Refusal}
use Rattle.tlv.specs.declared.TlvRead.{TlvRead}
use Rattle.tlv.specs.declared.TlvCursor.{TlvCursor}
use Rattle.tlv.specs.declared.TlvRead.TheVariants.{End, Entry}
use Rattle.tlv.specs.Tlv.{entry_at, check_read, list_check}
use Rattle.tlv.proofs.Laws.{entry_read, unrolled}
use Rattle.tlv.proofs.list_check.Goals as goal

-- a part that goes to the end, and its length
to_end : (a : ℕ) (l : List ℕ) → take (length l - a) (drop a l) ≡ drop a l
to_end a l = take_all (length l - a) (drop a l) (omega (arith, length-drop a l))

shorter : (a : ℕ) (l : List ℕ) → 0 < a → a ≤ length l → length (take (length l - a) (drop a l)) < length l
shorter a l h k = rw (to_end a l, length-drop) (omega arith)

-- the check of the whole is what stands at the start of the rest says of the rest
answers : (least : ℕ) (s rest : List ℕ) (r : Result TlvRead Refusal) → r ≡ entry_at least rest 0 → list_check least rest ≡ list_check least s
    → check_read (list_check least) rest r ≡ list_check least s
answers least s rest r e h = rw (e, ← unrolled) h

-- an entry has bytes, and ends within the rest
bounds : (least t b l : ℕ) (rest : List ℕ) (next : TlvCursor) (r : TlvRead) → ◌≡◌ {A = Result TlvRead Refusal} (Ok r) (entry_at least rest 0) → r ≡ Entry t b l next
    → (0 < next.at) × (next.at ≤ length rest)
bounds least t b l rest next r f e =
    let r = entry_read least rest 0 t b l next (sym f ∙ ap Ok e) in
    (omega (arith, r.after), omega (arith, r.after, r.within))

pub returns-in-End : goal.returns-in-End
returns-in-End c = answers c.args.least c.args.s.now c.loop-next.rest.now (Ok End) (ap Ok (sym c.in-End.is) ∙ c.in_ok-entry_at.ensures) c.loop-next.invariant

pub returns-in_err-entry_at : goal.returns-in_err-entry_at
returns-in_err-entry_at c =
    let p = err_from_is_err_and c.from_residual.result c.from_residual.ensures.1 in
    rw (p.1, p.2) (answers c.args.least c.args.s.now c.loop-next.rest.now (Err _) (c.in_err-entry_at.ensures) c.loop-next.invariant)

pub slice_bounds-rest-count : goal.slice_bounds-rest-count
slice_bounds-rest-count c = (bounds _ _ _ _ c.loop-next.rest.now _ _ (c.in_ok-entry_at.ensures) c.in-Entry.is).1

pub slice_bounds-rest-start : goal.slice_bounds-rest-start
slice_bounds-rest-start c = (bounds _ _ _ _ c.loop-next.rest.now _ _ (c.in_ok-entry_at.ensures) c.in-Entry.is).1

pub loop-next-smaller : goal.loop-next-smaller
loop-next-smaller c =
    let rest = c.loop-next.rest.now in
    let b = bounds _ _ _ _ rest _ _ (c.in_ok-entry_at.ensures) c.in-Entry.is in
    shorter _ rest b.0 b.1

pub loop-next-preserved : goal.loop-next-preserved
loop-next-preserved c =
    ap (list_check _) (to_end _ c.loop-next.rest.now)
    ∙ answers c.args.least c.args.s.now c.loop-next.rest.now _ (ap Ok (sym c.in-Entry.is) ∙ c.in_ok-entry_at.ensures) c.loop-next.invariant
