-- `lines::keep` meets its contract: what does not fit is passed by. Assumes nothing.
use Prim.Native.Nat.{ℕ, ◌+◌, ◌-◌}
use mathlib.Core.Path.{◌≡◌, sym, ap, ◌∙◌}
use native.Mathlib.Omega.{arith}
use lib.ListN.{length}
use Rattle.lines.specs.Lines.{next_line}
use Rattle.lines.proofs.Turns.{passed_to}
use Rattle.lines.proofs.keep.Goals as goal

pub returns-then-count-limit : goal.returns-then-count-limit
returns-then-count-limit c =
    let s = c in
    passed_to s.args.buffer.now s.args.count s.args.piece.now s.args.from s.args.end (omega arith) s.requires.1 s.requires.2 (omega arith)

pub returns-then-n-limit : goal.returns-then-n-limit
returns-then-n-limit c =
    let s = c in
    let d = c.store in
    let room = length s.args.buffer.now - s.args.count in
    let e : length d.new.buffer ≡ length s.args.buffer.now = d.auto.buffer in
    ap (λ (m : ℕ). next_line d.new.buffer (m + 1) s.args.piece.now s.args.end) (sym e)
    ∙ passed_to d.new.buffer (s.args.count + (s.args.from + room - s.args.from)) s.args.piece.now (s.args.from + room) s.args.end (omega arith) s.requires.1
    (λ i a b. s.requires.2 i (omega arith) b) (omega arith)
    ∙ d.ensures
