-- `bmca::receiver_at` meets its contract. Assumes nothing.
use native.Mathlib.Omega.{arith}
use mathlib.Core.Path.{◌≡◌, ap}
use Prim.Native.Nat.{◌+◌}
use lib.ListN.{get_or}
use Rattle.book.specs.Layout.{identity}
use Rattle.bmca.proofs.receiver_at.Goals as goal

pub returns : goal.returns
returns c =
    let e : c.args.q + 1 ≡ 1 + c.args.q = omega arith in
    ap (identity (get_or c.args.store.now 1 0)) e
