-- When a book is sound, as paper 01 lists it, and when a fresh start is taken.
-- Assumes nothing.
use Rattle.std.specs.Prelude.{◌≡◌, Bool, true, not, ◌&&◌, List, [], ◌∷◌, map, ℕ, ltb, leb, eqb, length}
use Rattle.header.specs.declared.PortIdentity.{PortIdentity}
use Rattle.same.specs.Same.{same_port}
use Rattle.history.specs.Rules.{ports_max, masters_max, messages_max, listed_max, in_step, steps_limit, interval_right, age_limit}
use Rattle.history.specs.Port.{Reads, sender, sequence, steps, Master, Port, Site, accepts}
use Rattle.history.specs.Book.{Book}

module _ {A : Type 0} where
  abbrev pub every : (A → Bool) → List A → Bool
  every f [] = true
  every f (x ∷ xs) = f x && every f xs

-- no two of them are the same
abbrev pub distinct : List PortIdentity → Bool
distinct [] = true
distinct (x ∷ xs) = every (λ y. not (same_port x y)) xs && distinct xs

abbrev pub sources : {A : Type 0} → List (Master A) → List PortIdentity
sources {A = A} Ms = map (λ (M : Master A). M.source) Ms

-- another age is all that `aged` gives a message
pub record Lawful {A : Type 0} (R : Reads A) : Type 0 where
  pub age : (m : A) (n : ℕ) → R.age (R.aged m n) ≡ n
  pub message : (m : A) (n : ℕ) → R.message (R.aged m n) ≡ R.message m

module _ {A : Type 0} (R : Reads A) where
  -- a message that its master may hold: it has its identity, steps below 255, an age below the limit
  unfoldable pub holdable : PortIdentity → ℕ → A → Bool
  holdable src limit m = same_port (sender R m) src && ltb (steps R m) steps_limit && ltb (R.age m) limit

  -- a message that may follow another: ages never rise, sequences are in step
  unfoldable pub follows : A → A → Bool
  follows a b = leb (R.age b) (R.age a) && in_step (sequence R a) (sequence R b)

  -- the messages that follow b, and a whole list
  abbrev pub sound_after : PortIdentity → ℕ → A → List A → Bool
  sound_after src limit b [] = true
  sound_after src limit b (m ∷ ms) = (holdable src limit m && follows b m) && sound_after src limit m ms

  abbrev pub sound_messages : PortIdentity → ℕ → List A → Bool
  sound_messages src limit [] = true
  sound_messages src limit (m ∷ ms) = holdable src limit m && sound_after src limit m ms

  -- 1 to 8 messages of a sender that is acceptable and not our clock
  unfoldable pub sound_master : Site → ℕ → Master A → Bool
  sound_master S limit M =
      leb 1 (length M.messages)
      && leb (length M.messages) messages_max
      && not (eqb M.source.clock_identity S.own)
      && accepts S M.source.clock_identity
      && sound_messages M.source limit M.messages

  unfoldable pub sound_port : Site → Port A → Bool
  sound_port S P =
      interval_right P.interval
      && leb (length P.masters) masters_max
      && distinct (sources P.masters)
      && every (sound_master S (age_limit P.interval)) P.masters

  unfoldable pub sound_book : Book A → Bool
  sound_book B =
      leb 1 (length B.ports)
      && leb (length B.ports) ports_max
      && leb (length B.site.listed) listed_max
      && every (sound_port B.site) B.ports

-- a fresh start that is not refused 14, by the list of acceptable masters and the intervals of the ports
unfoldable pub startable : List ℕ → List ℕ → Bool
startable listed ns =
    leb 1 (length ns) && leb (length ns) ports_max && leb (length listed) listed_max && every interval_right ns
