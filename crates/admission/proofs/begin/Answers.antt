-- `admission::begin` meets its contract. Assumes nothing.
use Prim.Native.Nat.{ℕ}
use native.Mathlib.Omega.{arith}
use mathlib.Core.Path.{ap, ◌∙◌}
use mathlib.Core.List.{List, [], ◌∷◌}
use borrow.Rule.Slice.PartMut.{put_mid}
use lib.ListN.{length-set}
use lib.Seq.{sets}
use Rattle.slot.specs.Blocks.{part-back, sets-put}
use Rattle.slot.specs.Slot.{encode, length-encode}
use Rattle.admission.specs.Admit.{begun}
use Rattle.admission.proofs.begin.Goals as goal

pub bounds-master-1 : goal.bounds-master-1
bounds-master-1 c = simp length-set (omega arith)

pub bounds-master-2 : goal.bounds-master-2
bounds-master-2 c = simp length-set (omega arith)

pub bounds-master-3 : goal.bounds-master-3
bounds-master-3 c = simp length-set (omega arith)

pub returns : goal.returns
unfolding begun
returns c =
    let a = c.args in
    let words : List ℕ = a.source.clock_identity ∷ a.source.port_number ∷ 0 ∷ 1 ∷ [] in
    ap (λ (l : List ℕ). sets (put_mid 4 8 a.master.now l) 0 words) c.store_message.ensures
    ∙ ap (λ (l : List ℕ). sets l 0 words) (part-back a.master.now (encode a.m) 4 8 (length-encode a.m))
    ∙ sets-put a.master.now words (encode a.m) (omega arith)
