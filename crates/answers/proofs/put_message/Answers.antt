-- `answers::put_message` meets its contract.
-- Assumes nothing.
use mathlib.Core.Path.{refl, ap, ◌∙◌}
use mathlib.Core.List.{List, [], ◌∷◌, ◌++◌}
use Prim.Native.Nat.{ℕ, ◌≤◌}
use native.Mathlib.Omega.{arith}
use lib.ListN.{length, set}
use Rattle.lent.specs.Laws.{put_next}
use Rattle.announce_words.specs.Words.{announce_words}
use Rattle.answers.proofs.put_message.Goals as goal

pub returns : goal.returns
unfolding announce_words
returns c =
    let a = c.args in
    let s = a.s.now in
    let m = a.message in
    let ws = announce_words m.announce in
    let room : 23 ≤ length s = c.requires in
    ap (λ (t : List ℕ). set (set t 21 m.tlv_start) 22 m.tlv_end) c.put_announce.ensures
    ∙ ap (λ (t : List ℕ). set t 22 m.tlv_end) (put_next s 0 21 ws m.tlv_start refl (omega (arith, room)))
    ∙ put_next s 0 22 (ws ++ (m.tlv_start ∷ [])) m.tlv_end refl (omega (arith, room))
