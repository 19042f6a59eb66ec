-- `tlv_type::TlvType::announce_propagate` meets its contract: the bounds of each arm decide each test.
-- Assumes nothing.
use native.Mathlib.Omega.{arith}
use borrow.Author.Tests.{le-leb, lt-leb}
use Rattle.tlv_type.proofs.TlvType.announce_propagate.Goals as goal

pub returns-in-8 : goal.returns-in-8
returns-in-8 c =
    let n = c.from.result in
    rw (← c.from.ensures) (simp (le-leb 8 n (omega arith), le-leb n 9 (omega arith)))

pub returns-in-8-2 : goal.returns-in-8-2
returns-in-8-2 c =
    let n = c.from.result in
    rw (← c.from.ensures)
    (simp (le-leb 8 n (omega arith), lt-leb n 9 (omega arith), le-leb 0x4000 n (omega arith), le-leb n 0x7fff (omega arith)))

pub returns-in_default : goal.returns-in_default
returns-in_default c =
    let n = c.from.result in
    rw (← c.from.ensures) (simp (lt-leb 8 n (omega arith), lt-leb 0x4000 n (omega arith)))

pub returns-in_default-2 : goal.returns-in_default-2
returns-in_default-2 c =
    let n = c.from.result in
    rw (← c.from.ensures) (simp (le-leb 8 n (omega arith), lt-leb n 9 (omega arith), lt-leb 0x4000 n (omega arith)))

pub returns-in_default-3 : goal.returns-in_default-3
returns-in_default-3 c =
    let n = c.from.result in
    rw (← c.from.ensures)
    (simp (le-leb 8 n (omega arith), lt-leb n 9 (omega arith), le-leb 0x4000 n (omega arith), lt-leb n 0x7fff (omega arith)))
