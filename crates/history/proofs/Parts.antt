-- A sound master, port and book, and an accepted message, by their parts.
-- Assumes nothing.
use Rattle.std.specs.Prelude.{◌≡◌, refl, Bool, true, false, cond, ◌&&◌, ℕ, ◌≤◌, ◌<◌, eqb}
use Rattle.std.proofs.Common.{ap, arith}
use Rattle.std.proofs.Math.Bool.{not}
use borrow.Author.Tests.{le-leb, leb-true, leb-false, not-true, not-false}
use Rattle.std.proofs.Math.Dec.{leb}
use Rattle.std.proofs.Math.ListN.{length}
use Rattle.wire.specs.Below.{both}
use Rattle.same.specs.Same.{same_port}
use Rattle.history.specs.Rules.{ports_max, masters_max, messages_max, listed_max, steps_limit, interval_right, age_limit}
use Rattle.history.specs.Port.{Reads, sender, steps, Master, Port, Site, accepts, receiver, list_of, known, is_in_order, refusal}
use Rattle.history.specs.Book.{Book}
use Rattle.history.specs.Sound.{every, distinct, sources, sound_messages, sound_master, sound_port, sound_book}
use Rattle.history.proofs.Tests.{together}

module _ {A : Type 0} (R : Reads A) where
  -- a sound master
  pub record MasterParts (S : Site) (limit : ℕ) (M : Master A) : Type 0 where
    pub some : 1 ≤ length M.messages
    pub few : length M.messages ≤ messages_max
    pub foreign : eqb M.source.clock_identity S.own ≡ false
    pub accepted : accepts S M.source.clock_identity ≡ true
    pub messages : sound_messages R M.source limit M.messages ≡ true

  pub master-parts : (S : Site) (limit : ℕ) (M : Master A) → sound_master R S limit M ≡ true → MasterParts S limit M
  unfolding sound_master
  master-parts S limit M e =
      let n = length M.messages in
      let clock = M.source.clock_identity in
      let a = leb 1 n in
      let b = leb n messages_max in
      let c = not (eqb clock S.own) in
      let d = accepts S clock in
      let e₄ = both (a && b && c && d) (sound_messages R M.source limit M.messages) e in
      let e₃ = both (a && b && c) d e₄.0 in
      let e₂ = both (a && b) c e₃.0 in
      let e₁ = both a b e₂.0 in
      record {
        some = leb-true 1 n e₁.0;
        few = leb-true n messages_max e₁.1;
        foreign = not-true (eqb clock S.own) e₂.1;
        accepted = e₃.1;
        messages = e₄.1;
      }

  pub master-sound : (S : Site) (limit : ℕ) (M : Master A) → MasterParts S limit M → sound_master R S limit M ≡ true
  unfolding sound_master
  master-sound S limit M p =
      together
      (together
      (together (together (le-leb 1 (length M.messages) p.some) (le-leb (length M.messages) messages_max p.few)) (ap not p.foreign))
      p.accepted)
      p.messages

  -- a sound port
  pub record PortParts (S : Site) (P : Port A) : Type 0 where
    pub interval : interval_right P.interval ≡ true
    pub few : length P.masters ≤ masters_max
    pub apart : distinct (sources P.masters) ≡ true
    pub masters : every (sound_master R S (age_limit P.interval)) P.masters ≡ true

  pub port-parts : (S : Site) (P : Port A) → sound_port R S P ≡ true → PortParts S P
  unfolding sound_port
  port-parts S P e =
      let a = interval_right P.interval in
      let b = leb (length P.masters) masters_max in
      let c = distinct (sources P.masters) in
      let e₃ = both (a && b && c) (every (sound_master R S (age_limit P.interval)) P.masters) e in
      let e₂ = both (a && b) c e₃.0 in
      let e₁ = both a b e₂.0 in
      record { interval = e₁.0; few = leb-true (length P.masters) masters_max e₁.1; apart = e₂.1; masters = e₃.1 }

  pub port-sound : (S : Site) (P : Port A) → PortParts S P → sound_port R S P ≡ true
  unfolding sound_port
  port-sound S P p =
      together (together (together p.interval (le-leb (length P.masters) masters_max p.few)) p.apart) p.masters

  -- a sound book
  pub record BookParts (B : Book A) : Type 0 where
    pub some : 1 ≤ length B.ports
    pub few : length B.ports ≤ ports_max
    pub listed : length B.site.listed ≤ listed_max
    pub ports : every (sound_port R B.site) B.ports ≡ true

  pub book-parts : (B : Book A) → sound_book R B ≡ true → BookParts B
  unfolding sound_book
  book-parts B e =
      let n = length B.ports in
      let l = length B.site.listed in
      let e₃ = both (leb 1 n && leb n ports_max && leb l listed_max) (every (sound_port R B.site) B.ports) e in
      let e₂ = both (leb 1 n && leb n ports_max) (leb l listed_max) e₃.0 in
      let e₁ = both (leb 1 n) (leb n ports_max) e₂.0 in
      record { some = leb-true 1 n e₁.0; few = leb-true n ports_max e₁.1; listed = leb-true l listed_max e₂.1; ports = e₃.1 }

  pub book-sound : (B : Book A) → BookParts B → sound_book R B ≡ true
  unfolding sound_book
  book-sound B p =
      let n = length B.ports in
      together (together (together (le-leb 1 n p.some) (le-leb n ports_max p.few)) (le-leb (length B.site.listed) listed_max p.listed)) p.ports

  -- a message that a port does not refuse
  pub record Accepted (S : Site) (k : ℕ) (m : A) (P : Port A) : Type 0 where
    pub other : same_port (sender R m) (receiver S k) ≡ false
    pub accepted : accepts S (sender R m).clock_identity ≡ true
    pub foreign : eqb (sender R m).clock_identity S.own ≡ false
    pub order : is_in_order R (list_of (sender R m) P.masters) m ≡ true
    pub steps : steps R m < steps_limit
    pub room : (not (known (sender R m) P.masters) && leb masters_max (length P.masters)) ≡ false

  -- one line of a list of refusals that refuses nothing
  passes : (b : Bool) (n x : ℕ) → 1 ≤ n → cond b n x ≡ 0 → (b ≡ false) × (x ≡ 0)
  passes true n x h e = absurd (omega arith)
  passes false n x h e = (refl, e)

  pub accepted-parts : (S : Site) (k : ℕ) (m : A) (P : Port A) → refusal R S k m P ≡ 0 → Accepted S k m P
  unfolding refusal
  accepted-parts S k m P e =
      let src = sender R m in
      let clock = src.clock_identity in
      let p₇ = passes (same_port src (receiver S k)) 7 _ (omega arith) e in
      let p₈ = passes (not (accepts S clock)) 8 _ (omega arith) p₇.1 in
      let p₉ = passes (eqb clock S.own) 9 _ (omega arith) p₈.1 in
      let p₁₀ = passes (not (is_in_order R (list_of src P.masters) m)) 10 _ (omega arith) p₉.1 in
      let p₁₁ = passes (leb steps_limit (steps R m)) 11 _ (omega arith) p₁₀.1 in
      let p₁₂ = passes (not (known src P.masters) && leb masters_max (length P.masters)) 12 0 (omega arith) p₁₁.1 in
      record {
        other = p₇.0;
        accepted = not-false (accepts S clock) p₈.0;
        foreign = p₉.0;
        order = not-false (is_in_order R (list_of src P.masters) m) p₁₀.0;
        steps = leb-false steps_limit (steps R m) p₁₁.0;
        room = p₁₂.0;
      }
