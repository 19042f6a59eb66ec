-- `frame::refusal_of` meets its contract, by the law of each answer.
-- Assumes nothing.
use Rattle.std.proofs.Common.{◌≡◌, refl, ap, sym, ◌∙◌, Bool, true, false, not, Some, rules}
use denote.Enum.Bare.{sameb, same_true}
use Rattle.message_type.specs.contracts.MessageType.{the_type}
use Rattle.message_type.specs.declared.MessageType.{MessageType}
use Rattle.message_type.specs.declared.MessageType.TheVariants.{Announce}
use Rattle.std.proofs.lemmas.Result.{err_from_is_err_and}
use Rattle.message_type.specs.Types.{type_of, type_number, type-back, type-known, type-reserved}
use Rattle.frame.proofs.Laws.{refused_2, refused_3, refused_1, refused_5, refused-short, passed}
use Rattle.frame.proofs.refusal_of.Goals as goal

-- a type is that of an announce where its number is 11
other : (t : MessageType) → true ≡ not (sameb the_type t Announce) → type_number t ≡ 11 → ⊥
other t h e =
    let back : Some t ≡ Some Announce = sym (type-back t) ∙ ap type_of e ∙ type-back Announce in
    let same : t ≡ Announce = cc in
    let w = rw same at h in
    cc

only : (t : MessageType) → false ≡ not (sameb the_type t Announce) → type_number t ≡ 11
only t h = by (sameb the_type t Announce) (λ e. ap type_number (same_true the_type (search rules) t Announce e)) h
  where
    by : (b : Bool) → (b ≡ true → type_number t ≡ 11) → false ≡ not b → type_number t ≡ 11
    by true k e = k refl
    by false k e = cc

pub returns-in_err-message_type : goal.returns-in_err-message_type
returns-in_err-message_type c =
    let p = err_from_is_err_and c.from_residual.result c.from_residual.ensures.1 in
    let r = type-reserved _ _ c.in_err-message_type.ensures in
    rw (p.1, p.2, r.1) (refused_2 _ _ _ r.0)

pub returns-then-size-lt-HEADER_SIZE : goal.returns-then-size-lt-HEADER_SIZE
returns-then-size-lt-HEADER_SIZE c = refused_3 _ _ _ _ (type-known _ _ c.in_ok-message_type.ensures) c.if-size-lt-HEADER_SIZE.true

pub returns-then-given-size : goal.returns-then-given-size
returns-then-given-size c = refused_1 _ _ _ _ (type-known _ _ c.in_ok-message_type.ensures) c.if-size-lt-HEADER_SIZE.false c.if-given-size.true

pub returns-then-ne : goal.returns-then-ne
returns-then-ne c =
    refused_5 _ _ _ _ (type-known _ _ c.in_ok-message_type.ensures) c.if-size-lt-HEADER_SIZE.false c.if-given-size.false (other _ c.if-ne.ensures)

pub returns-then-size-lt-TLV_START : goal.returns-then-size-lt-TLV_START
returns-then-size-lt-TLV_START c =
    refused-short _ _ _ _ (type-known _ _ c.in_ok-message_type.ensures) c.if-size-lt-HEADER_SIZE.false
    c.if-given-size.false (only _ c.if-ne.ensures) c.if-size-lt-TLV_START.true

pub returns : goal.returns
returns c =
    passed _ _ _ _ (type-known _ _ c.in_ok-message_type.ensures) c.if-given-size.false
    (only _ c.if-ne.ensures) c.if-size-lt-TLV_START.false
