-- `log_line::answer` meets its contract, way by way. Assumes nothing.
use mathlib.Core.Path.{refl}
use Rattle.log_answer.specs.Steps.{answers_by, shapeless_told}
use Rattle.log_asked.proofs.Steps.{empty-line, kind_0, before-setup, kinds}
use Rattle.log_line.proofs.answer.Goals as goal

pub returns-then-line-eq0 : goal.returns-then-line-eq0
returns-then-line-eq0 c =
    let a = c.args in
    shapeless_told a.setup _ _ _ _ _ _ c.told.ensures _ (empty-line a.setup _ c.if-line-eq0.true) refl refl

pub returns-then-kind-eq0 : goal.returns-then-kind-eq0
returns-then-kind-eq0 c =
    let b = c in
    let a = b.args in
    answers_by _ _ (kind_0 a.setup a.line.now b.if-line-eq0.false b.if-kind-eq0.true) _ _ _ _ _ _ c.start_line.ensures

pub returns-then-setup-eq0 : goal.returns-then-setup-eq0
returns-then-setup-eq0 c =
    let b = c in
    let a = b.args in
    shapeless_told a.setup _ _ _ _ _ _ c.told-then-setup-eq0.ensures _
    (before-setup a.setup _ b.if-line-eq0.false b.if-kind-eq0.false c.if-setup-eq0.true) refl refl

pub kind_line-requires : goal.kind_line-requires
kind_line-requires c =
    let pre = c.requires in
    (pre.0, pre.1 c.if-setup-eq0.false)

pub returns : goal.returns
returns c =
    let b = c in
    let a = b.args in
    answers_by _ _ (kinds a.setup a.line.now b.if-line-eq0.false b.if-kind-eq0.false c.if-setup-eq0.false) _ _ _ _ _ _ c.kind_line.ensures
