-- One port of a book as lists: what it holds, and what the three calls do to it.
-- Assumes nothing.
use Rattle.std.specs.Prelude.{Bool, true, false, cond, not, ◌&&◌, ◌||◌, List, [], ◌∷◌, ◌++◌, map, ℕ, suc, ◌+◌, ltb, leb, eqb, length, take, drop, Option, Some, None, option_map}
use Rattle.header.specs.declared.PortIdentity.{PortIdentity}
use Rattle.announce.specs.declared.AnnounceMessage.{AnnounceMessage}
use Rattle.same.specs.Same.{same_port}
use Rattle.choice.specs.declared.BestAnnounceMessage.{BestAnnounceMessage}
use Rattle.choice.specs.declared.Candidate.{Candidate}
use Rattle.choice.specs.Choice.{joined}
use Rattle.choice.specs.Candidate.{whole, winner}
use Rattle.history.specs.Rules.{masters_max, messages_max, in_step, steps_limit, age_limit}

-- ---- what is held

-- What the rules read of a held message: the announce and its age; and the message at another age. All else that it holds is its own.
pub record Reads (A : Type 0) : Type 0 where
  pub message : A → AnnounceMessage
  pub age : A → ℕ
  pub aged : A → ℕ → A

module _ {A : Type 0} (R : Reads A) where
  abbrev pub sender : A → PortIdentity
  sender m = (R.message m).header.source_port_identity

  abbrev pub sequence : A → ℕ
  sequence m = (R.message m).header.sequence_id

  abbrev pub steps : A → ℕ
  steps m = (R.message m).steps_removed

  -- the message as it is offered, received by a port
  abbrev pub best_of : PortIdentity → A → BestAnnounceMessage
  best_of receiver m = record { message = R.message m; age = R.age m; identity = receiver }

-- a master's messages, oldest first
pub record Master (A : Type 0) : Type 0 where
  pub source : PortIdentity
  pub messages : List A

-- a port's masters, in order of arrival
pub record Port (A : Type 0) : Type 0 where
  pub interval : ℕ
  pub masters : List (Master A)

-- what all ports share: our own clock, and the acceptable masters, any or those listed
pub record Site : Type 0 where
  pub own : ℕ
  pub any : Bool
  pub listed : List ℕ

-- A port after a call, the call's number, the port's Erbest, and the messages that came and went.
pub record Turn (A : Type 0) : Type 0 where
  pub port : Port A
  pub answer : ℕ
  pub best : Option BestAnnounceMessage
  pub taken : List A
  pub evicted : List A
  pub aged_out : List A
  pub consumed : List A

-- ---- lists

module _ {A : Type 0} where
  -- at the end; the ninth puts out the first
  unfoldable pub push : List A → A → List A
  push ms m = cond (ltb (length ms) messages_max) (ms ++ (m ∷ [])) (drop 1 ms ++ (m ∷ []))

  unfoldable pub put_out : List A → List A
  put_out ms = cond (ltb (length ms) messages_max) [] (take 1 ms)

  -- of a list that is not empty: its last element, and the others
  abbrev pub newest : A → List A → A
  newest x [] = x
  newest x (y ∷ ys) = newest y ys

  abbrev pub others : A → List A → List A
  others x [] = []
  others x (y ∷ ys) = x ∷ others y ys

  -- two messages or more offer the newest; the list without it
  abbrev pub offered : List A → List A
  offered [] = []
  offered (x ∷ []) = []
  offered (x ∷ y ∷ ys) = newest y ys ∷ []

  abbrev pub spared : List A → List A
  spared [] = []
  spared (x ∷ []) = x ∷ []
  spared (x ∷ y ∷ ys) = x ∷ others y ys

  -- those that pass a test
  abbrev pub sift : (A → Bool) → List A → List A
  sift f [] = []
  sift f (x ∷ xs) = cond (f x) (x ∷ sift f xs) (sift f xs)

abbrev pub is_in : ℕ → List ℕ → Bool
is_in x [] = false
is_in x (y ∷ ys) = eqb y x || is_in x ys

-- ---- identities

-- port k of the clock
abbrev pub receiver : Site → ℕ → PortIdentity
receiver S k = record { clock_identity = S.own; port_number = k }

unfoldable pub accepts : Site → ℕ → Bool
accepts S clock = S.any || is_in clock S.listed

-- ---- masters

module _ {A : Type 0} where
  -- the messages of the first master of an identity
  abbrev pub list_of : PortIdentity → List (Master A) → List A
  list_of src [] = []
  list_of src (M ∷ Ms) = cond (same_port M.source src) M.messages (list_of src Ms)

  abbrev pub known : PortIdentity → List (Master A) → Bool
  known src [] = false
  known src (M ∷ Ms) = same_port M.source src || known src Ms

  abbrev pub with : Master A → List A → Master A
  with M ms = record { source = M.source; messages = ms }

  -- to the first master of its identity, or to a new one at the end
  abbrev pub admit : PortIdentity → A → List (Master A) → List (Master A)
  admit src m [] = record { source = src; messages = m ∷ [] } ∷ []
  admit src m (M ∷ Ms) = cond (same_port M.source src) (with M (push M.messages m) ∷ Ms) (M ∷ admit src m Ms)

  abbrev pub has_messages : Master A → Bool
  has_messages M = leb 1 (length M.messages)

  abbrev pub holding : Port A → List (Master A) → Port A
  holding P Ms = record { interval = P.interval; masters = Ms }

  -- all messages of a port
  abbrev pub held_by : List (Master A) → List A
  held_by [] = []
  held_by (M ∷ Ms) = M.messages ++ held_by Ms

  -- a call that changes nothing
  abbrev pub unchanged : ℕ → Port A → Turn A
  unchanged n P = record { port = P; answer = n; best = None; taken = []; evicted = []; aged_out = []; consumed = [] }

-- ---- the calls

-- an offer, with the place of its master
pub record Offer : Type 0 where
  pub place : ℕ
  pub best : BestAnnounceMessage

abbrev pub shown : Offer → Candidate
shown o = whole o.best

abbrev pub won_by : Option Offer → ℕ → Bool
won_by None i = false
won_by (Some o) i = eqb o.place i

module _ {A : Type 0} where
  -- the winner's list stays as it was, every other offered message is consumed
  abbrev pub settled_from : Option Offer → ℕ → List (Master A) → List (Master A)
  settled_from w i [] = []
  settled_from w i (M ∷ Ms) = with M (cond (won_by w i) M.messages (spared M.messages)) ∷ settled_from w (suc i) Ms

  abbrev pub consumed_from : Option Offer → ℕ → List (Master A) → List A
  consumed_from w i [] = []
  consumed_from w i (M ∷ Ms) = cond (won_by w i) [] (offered M.messages) ++ consumed_from w (suc i) Ms

module _ {A : Type 0} (R : Reads A) where
  -- it may follow the last of the list
  abbrev pub is_in_order : List A → A → Bool
  is_in_order [] m = true
  is_in_order (x ∷ xs) m = in_step (sequence R (newest x xs)) (sequence R m)

  -- Register: the refusals after the frame's, in their order; 0 where there is none
  unfoldable pub refusal : Site → ℕ → A → Port A → ℕ
  refusal S k m P =
      cond (same_port (sender R m) (receiver S k)) 7
      (cond (not (accepts S (sender R m).clock_identity)) 8
      (cond (eqb (sender R m).clock_identity S.own) 9
      (cond (not (is_in_order (list_of (sender R m) P.masters) m)) 10
      (cond (leb steps_limit (steps R m)) 11
      (cond (not (known (sender R m) P.masters) && leb masters_max (length P.masters)) 12 0)))))

  -- accepted: age 0, at the end of its list
  abbrev pub taking : A → Port A → Turn A
  taking m P =
      record {
        port = holding P (admit (sender R m) (R.aged m 0) P.masters);
        answer = 0;
        best = None;
        taken = R.aged m 0 ∷ [];
        evicted = put_out (list_of (sender R m) P.masters);
        aged_out = [];
        consumed = [];
      }

  unfoldable pub register_port : Site → ℕ → A → Port A → Turn A
  register_port S k m P = cond (eqb (refusal S k m P) 0) (taking m P) (unchanged (refusal S k m P) P)

  -- Age: every message older; those at or above the limit go, then masters without a message
  abbrev pub older : ℕ → A → A
  older step m = R.aged m (R.age m + step)

  abbrev pub young : ℕ → A → Bool
  young limit m = ltb (R.age m) limit

  unfoldable pub remaining : ℕ → ℕ → List A → List A
  remaining step limit ms = sift (young limit) (map (older step) ms)

  unfoldable pub leaving : ℕ → ℕ → List A → List A
  leaving step limit ms = sift (λ m. not (young limit m)) (map (older step) ms)

  abbrev pub age_master : ℕ → ℕ → Master A → Master A
  age_master step limit M = with M (remaining step limit M.messages)

  unfoldable pub age_port : ℕ → Port A → Turn A
  age_port step P =
      record {
        port = holding P (sift has_messages (map (age_master step (age_limit P.interval)) P.masters));
        answer = 0;
        best = None;
        taken = [];
        evicted = [];
        aged_out = joined (map (λ M. leaving step (age_limit P.interval) M.messages) P.masters);
        consumed = [];
      }

  -- Decide: the offers from the last master to the first, and the choice among them
  abbrev pub offer_of : PortIdentity → ℕ → Master A → List Offer
  offer_of r i M = map (λ m. record { place = i; best = best_of R r m }) (offered M.messages)

  abbrev pub offers_from : PortIdentity → ℕ → List (Master A) → List Offer
  offers_from r i [] = []
  offers_from r i (M ∷ Ms) = offers_from r (suc i) Ms ++ offer_of r i M

  -- the offered messages alone
  abbrev pub candidates : PortIdentity → List (Master A) → List BestAnnounceMessage
  candidates r [] = []
  candidates r (M ∷ Ms) = candidates r Ms ++ map (best_of R r) (offered M.messages)

  unfoldable pub chosen : PortIdentity → List (Master A) → Option Offer
  chosen r Ms = winner shown (offers_from r 0 Ms)

  unfoldable pub decide_port : Site → ℕ → Port A → Turn A
  decide_port S k P =
      record {
        port = holding P (settled_from (chosen (receiver S k) P.masters) 0 P.masters);
        answer = 0;
        best = option_map (λ (o : Offer). o.best) (chosen (receiver S k) P.masters);
        taken = [];
        evicted = [];
        aged_out = [];
        consumed = consumed_from (chosen (receiver S k) P.masters) 0 P.masters;
      }

-- ---- a call, as one port has it

-- a frame as it was read: refused with its number, or an announce
pub data Frame (A : Type 0) : Type 0 where
  bad : ℕ → Frame A
  announce : A → Frame A

-- what a call is to one port
pub data PortCall (A : Type 0) : Type 0 where
  idle : PortCall A
  hear : Frame A → PortCall A
  pass : ℕ → PortCall A
  judge : PortCall A

module _ {A : Type 0} (R : Reads A) (S : Site) (k : ℕ) where
  abbrev pub hearing : Frame A → Port A → Turn A
  hearing (bad n) P = unchanged n P
  hearing (announce m) P = register_port R S k m P

  -- port k at a call
  abbrev pub turn : PortCall A → Port A → Turn A
  turn idle P = unchanged 0 P
  turn (hear f) P = hearing f P
  turn (pass step) P = age_port R step P
  turn judge P = decide_port R S k P
