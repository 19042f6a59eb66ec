-- `lines::next_line` meets its contract, by the bytes kept up to the LF and by what happens there. Assumes nothing.
use mathlib.Core.Path.{◌≡◌, refl}
use native.Mathlib.Omega.{arith}
use lib.ListN.{length}
use Rattle.lines.proofs.Turns.{all-taken, short-ends, long-ends}
use Rattle.lines.proofs.next_line.Goals as goal

pub returns-then-from-piece-clause-is : goal.returns-then-from-piece-clause-is
returns-then-from-piece-clause-is c =
    let a = c.args in
    rw (all-taken a.buffer.now a.count a.piece.now a.from c.if-from-piece.true) (refl, refl)

pub returns-then-end-piece-clause-is : goal.returns-then-end-piece-clause-is
returns-then-end-piece-clause-is c =
    let a = c.args in
    let k = c.keep-kept in
    let end = c.find_lf-end.result in
    rw (← k.ensures, all-taken k.new.buffer k.result a.piece.now end (omega arith)) (refl, refl)

pub returns-then-kept-buffer-clause-is : goal.returns-then-kept-buffer-clause-is
returns-then-kept-buffer-clause-is c =
    let a = c.args in
    let k = c.keep-kept in
    let f = c.find_lf-end in
    let e : length k.new.buffer ≡ length a.buffer.now = k.auto.buffer in
    rw (← k.ensures) (short-ends k.new.buffer k.result a.piece.now f.result (omega arith) (f.ensures.3 (omega arith)) (omega arith))

pub returns-clause-is : goal.returns-clause-is
returns-clause-is c =
    let a = c.args in
    let k = c.keep-kept in
    let f = c.find_lf-end in
    let e : length k.new.buffer ≡ length a.buffer.now = k.auto.buffer in
    rw (← k.ensures) (long-ends k.new.buffer k.result a.piece.now f.result (omega arith) (f.ensures.3 (omega arith)) (omega arith))
