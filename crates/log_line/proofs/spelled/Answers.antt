-- `log_line::spelled` meets its contract: the bytes stand in front of the room for them. Assumes nothing.
use mathlib.Core.Path.{refl, sym, ap, ◌∙◌}
use native.Mathlib.Omega.{arith}
use lib.ListN.{take}
use lib.Seq.{length-take-le}
use Rattle.hex_line.specs.Hex.{decoded_of}
use Rattle.hex_line.proofs.HexLaws.{decoded_fits}
use Rattle.log_asked.specs.Line.{asked_of}
use Rattle.log_answer.specs.Steps.{answers_by, shapeless_told}
use Rattle.log_asked.proofs.Steps.{bad-asked, good_asked, good_bytes}
use Rattle.log_line.proofs.spelled.Goals as goal

pub slice_bounds-answer-end : goal.slice_bounds-answer-end
slice_bounds-answer-end c =
    let d = c.decode in
    omega (arith, decoded_fits _ _ _ (sym d.ensures.0 ∙ c.in-Some.is), d.auto)

pub slice_bounds-answer-end-in-Some : goal.slice_bounds-answer-end-in-Some
slice_bounds-answer-end-in-Some c =
    let d = c.decode in
    sym (length-take-le _ _ (omega (arith, decoded_fits _ _ _ (sym d.ensures.0 ∙ c.in-Some.is), d.auto)))

pub returns-in-Some : goal.returns-in-Some
returns-in-Some c =
    let b = c in
    let e = b.decode.ensures in
    let a = b.args in
    let room = b.requires.1 in
    let good = sym c.in-Some.is ∙ e.0 ∙ ap (decoded_of a.line.now) room in
    let bytes = ap (take c.in-Some.n) e.1 ∙ good_bytes a.line.now a.bytes.now _ room good in
    answers_by _ _ (ap (asked_of a.setup) bytes ∙ good_asked a.setup a.line.now _ good) _ _ _ _ _ _ c.answer.ensures

pub returns-in-None : goal.returns-in-None
returns-in-None c =
    let b = c in
    let a = b.args in
    let room = b.requires.1 in
    let bad = sym c.in-None.is ∙ b.decode.ensures.0 ∙ ap (decoded_of a.line.now) room in
    shapeless_told a.setup _ _ _ _ _ _ c.told.ensures _ (bad-asked a.setup a.line.now bad) refl refl
