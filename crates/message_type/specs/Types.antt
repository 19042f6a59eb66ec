-- The known message types of IEEE 1588-2019, table 36, their numbers, and the control field of each.
-- Assumes nothing.
use Rattle.std.specs.Prelude.{ℕ, ◌≤◌, ◌≡◌, refl, Bool, true, false, cond, List, [], ◌∷◌, eqb, Option, Some, None, Ok, Err, ok_or}
use Rattle.std.proofs.Common.{sym, ap, ◌∙◌, arith, lit≤, eqb-true}
use Rattle.refused.specs.declared.Refusal.{Refusal}
use Rattle.refused.specs.declared.Refusal.TheVariants.{ReservedType}
use Rattle.message_type.specs.declared.MessageType.{MessageType}
use Rattle.message_type.specs.declared.MessageType.TheVariants.{Sync, DelayReq, PDelayReq, PDelayResp, FollowUp, DelayResp, PDelayRespFollowUp, Announce, Signaling, Management}

abbrev pub type_number : MessageType → ℕ
type_number Sync = 0
type_number DelayReq = 1
type_number PDelayReq = 2
type_number PDelayResp = 3
type_number FollowUp = 8
type_number DelayResp = 9
type_number PDelayRespFollowUp = 10
type_number Announce = 11
type_number Signaling = 12
type_number Management = 13

-- the types 0 to 3 and 8 to 13
abbrev known : List MessageType
known =
    Sync ∷ DelayReq ∷ PDelayReq ∷ PDelayResp ∷ FollowUp ∷ DelayResp ∷ PDelayRespFollowUp ∷ Announce ∷ Signaling ∷ Management ∷ []

-- the one with a number
abbrev one_in : List MessageType → ℕ → Option MessageType
one_in [] n = None
one_in (t ∷ ts) n = cond (eqb n (type_number t)) (Some t) (one_in ts n)

-- the type of a number; every other is reserved
unfoldable pub type_of : ℕ → Option MessageType
type_of n = one_in known n

-- 0 Sync, 1 Delay_Req, 2 Follow_Up, 3 Delay_Resp, 4 Management, 5 all others
abbrev pub control_of : MessageType → ℕ
control_of Sync = 0
control_of DelayReq = 1
control_of PDelayReq = 5
control_of PDelayResp = 5
control_of FollowUp = 2
control_of DelayResp = 3
control_of PDelayRespFollowUp = 5
control_of Announce = 5
control_of Signaling = 5
control_of Management = 4

-- ---- laws

pub number-le : (t : MessageType) → type_number t ≤ 13
number-le Sync = lit≤ tt
number-le DelayReq = lit≤ tt
number-le PDelayReq = lit≤ tt
number-le PDelayResp = lit≤ tt
number-le FollowUp = lit≤ tt
number-le DelayResp = lit≤ tt
number-le PDelayRespFollowUp = lit≤ tt
number-le Announce = lit≤ tt
number-le Signaling = lit≤ tt
number-le Management = lit≤ tt

pub control-le : (t : MessageType) → control_of t ≤ 5
control-le Sync = lit≤ tt
control-le DelayReq = lit≤ tt
control-le PDelayReq = lit≤ tt
control-le PDelayResp = lit≤ tt
control-le FollowUp = lit≤ tt
control-le DelayResp = lit≤ tt
control-le PDelayRespFollowUp = lit≤ tt
control-le Announce = lit≤ tt
control-le Signaling = lit≤ tt
control-le Management = lit≤ tt

-- a type's number is that of the type
pub type-back : (t : MessageType) → type_of (type_number t) ≡ Some t
unfolding type_of
type-back Sync = refl
type-back DelayReq = refl
type-back PDelayReq = refl
type-back PDelayResp = refl
type-back FollowUp = refl
type-back DelayResp = refl
type-back PDelayRespFollowUp = refl
type-back Announce = refl
type-back Signaling = refl
type-back Management = refl

-- and a number's type has that number
number_in : (ts : List MessageType) (n : ℕ) (t : MessageType) → one_in ts n ≡ Some t → type_number t ≡ n
number_in [] n t e = absurd (let z : ◌≡◌ {A = ℕ} 0 1 = cc in omega arith)
number_in (u ∷ ts) n t e = by (eqb n (type_number u)) refl e (λ q. number_in ts n t q)
  where
    by : (b : Bool) → eqb n (type_number u) ≡ b → cond b (Some u) (one_in ts n) ≡ Some t → (one_in ts n ≡ Some t → type_number t ≡ n)
        → type_number t ≡ n
    by true q e rest = ap type_number (let same : t ≡ u = cc in same) ∙ sym (eqb-true n (type_number u) q)
    by false q e rest = rest e

pub number-back : (n : ℕ) (t : MessageType) → type_of n ≡ Some t → type_number t ≡ n
unfolding type_of
number-back n t e = number_in known n t e

-- ---- what a conversion says of the number

pub type-known : (o : Option MessageType) (t : MessageType) → Ok t ≡ ok_or o ReservedType → o ≡ Some t
type-known (Some u) t e = cc
type-known None t e = cc

pub type-reserved : (o : Option MessageType) (r : Refusal) → Err r ≡ ok_or o ReservedType → (o ≡ None) × (r ≡ ReservedType)
type-reserved (Some u) r e = (cc, cc)
type-reserved None r e = (refl, cc)
