-- The lines of paper 01, "On both sides of a line", that speak of sequence, steps and age and are marked (P): of any messages.
-- Assumes nothing.
use Rattle.std.specs.Prelude.{◌≡◌, refl, Bool, not, ◌&&◌, ◌||◌, List, [], ◌∷◌, ◌++◌, ℕ, ◌+◌, ◌-◌, ◌*◌, ◌%◌, ◌≤◌, ◌<◌, ltb, leb, eqb, length}
use Rattle.std.proofs.Math.Path.{ap}
use Rattle.std.proofs.Common.{◌∙◌, arith}
use Rattle.std.proofs.Math.Bool.{true, false, cond}
use borrow.Author.Tests.{lt-ltb, le-ltb, le-leb, lt-leb}
use Rattle.header.specs.declared.PortIdentity.{PortIdentity}
use Rattle.same.specs.Same.{same_port}
use Rattle.history.specs.Rules.{masters_max, steps_limit, in_step}
use Rattle.history.specs.Port.{Reads, sender, sequence, steps, Master, Port, Site, accepts, receiver, newest, list_of, known, held_by, is_in_order, refusal, older, young, remaining, leaving, age_port}
use Rattle.history.specs.Book.{fresh_port}
use Rattle.history.specs.Sound.{Lawful}
use Rattle.history.proofs.Aged.{remaining-append, leaving-append, held-aged, out-aged}

-- ---- sequence and steps

-- the difference, mod 65536
difference : (b d : ℕ) → b < 65536 → d < 65536 → ((b + d) % 65536 + 65536 - b) % 65536 ≡ d
difference b d h l = omega arith

-- a sender whose list is not empty is known
listed-known : {A : Type 0} (src : PortIdentity) (Ms : List (Master A)) (x : A) (xs : List A) → list_of src Ms ≡ x ∷ xs → known src Ms ≡ true
listed-known src [] x xs e = absurd (omega (arith, ap (λ l. length l) e))
listed-known src (M ∷ Ms) x xs e = pick (same_port M.source src) (listed-known src Ms x xs) e
  where
    pick : (b : Bool) → (list_of src Ms ≡ x ∷ xs → known src Ms ≡ true) → cond b M.messages (list_of src Ms) ≡ x ∷ xs → (b || known src Ms) ≡ true
    pick true r e = refl
    pick false r e = r e

module _ {A : Type 0} (R : Reads A) where
  -- a message that port k does not refuse 7, 8 or 9
  pub record Welcome (S : Site) (k : ℕ) (m : A) : Type 0 where
    pub other : same_port (sender R m) (receiver S k) ≡ false
    pub accepted : accepts S (sender R m).clock_identity ≡ true
    pub foreign : eqb (sender R m).clock_identity S.own ≡ false

  module _ (S : Site) (k : ℕ) (m : A) (P : Port A) (w : Welcome S k m) where
    -- the tests for 10 and 12
    abbrev order : Bool
    order = is_in_order R (list_of (sender R m) P.masters) m

    abbrev full : Bool
    full = not (known (sender R m) P.masters) && leb masters_max (length P.masters)

    -- out of order; in order with too many steps; and taken
    refused_10 : order ≡ false → refusal R S k m P ≡ 10
    unfolding refusal
    refused_10 e = simp (w.other, w.accepted, w.foreign, e)

    refused_11 : order ≡ true → steps_limit ≤ steps R m → refusal R S k m P ≡ 11
    unfolding refusal
    refused_11 e h = simp (w.other, w.accepted, w.foreign, e, le-leb steps_limit (steps R m) h)

    taken : order ≡ true → steps R m < steps_limit → full ≡ false → refusal R S k m P ≡ 0
    unfolding refusal
    taken e h r = simp (w.other, w.accepted, w.foreign, e, lt-leb steps_limit (steps R m) h, r)

  -- A sequence that differs by d from that of the last message held of the same sender, mod 65536.
  pub record Follows (S : Site) (k d : ℕ) (m : A) (P : Port A) : Type 0 where
    pub welcome : Welcome S k m
    pub first : A
    pub rest : List A
    pub list : list_of (sender R m) P.masters ≡ first ∷ rest
    pub last : sequence R (newest first rest) < 65536
    pub next : sequence R m ≡ (sequence R (newest first rest) + d) % 65536

  -- Sequence difference 0 and 32766 taken; 32767 and 65535 refused 10.
  abbrev pub Sequences : Type 0
  Sequences =
      (S : Site) (k : ℕ) (m : A) (P : Port A)
      → (Follows S k 0 m P → steps R m < 255 → refusal R S k m P ≡ 0)
      × (Follows S k 32766 m P → steps R m < 255 → refusal R S k m P ≡ 0)
      × (Follows S k 32767 m P → refusal R S k m P ≡ 10)
      × (Follows S k 65535 m P → refusal R S k m P ≡ 10)

  -- the order is told by the difference
  order_of : (S : Site) (k d : ℕ) (m : A) (P : Port A) → Follows S k d m P → d < 65536 → is_in_order R (list_of (sender R m) P.masters) m ≡ ltb d 32767
  order_of S k d m P f h =
      let b = sequence R (newest f.first f.rest) in
      ap (λ l. is_in_order R l m) f.list ∙ ap (in_step b) f.next ∙ ap (λ (n : ℕ). ltb n 32767) (difference b d f.last h)

  in_order : (S : Site) (k d : ℕ) (m : A) (P : Port A) → d < 32767 → Follows S k d m P → steps R m < 255 → refusal R S k m P ≡ 0
  in_order S k d m P h f t =
      taken S k m P f.welcome (order_of S k d m P f (omega arith) ∙ lt-ltb d 32767 h) (omega (arith, t))
      (ap (λ b. not b && leb masters_max (length P.masters)) (listed-known (sender R m) P.masters f.first f.rest f.list))

  out_of_order : (S : Site) (k d : ℕ) (m : A) (P : Port A) → 32767 ≤ d → d < 65536 → Follows S k d m P → refusal R S k m P ≡ 10
  out_of_order S k d m P h l f = refused_10 S k m P f.welcome (order_of S k d m P f l ∙ le-ltb d 32767 h)

  pub sequences : Sequences
  sequences S k m P = (
    in_order S k 0 m P (omega arith),
    in_order S k 32766 m P (omega arith),
    out_of_order S k 32767 m P (omega arith) (omega arith),
    out_of_order S k 65535 m P (omega arith) (omega arith),
  )

  -- Steps 254 taken; 255 refused 11: of a message in order, whose sender is known or has room.
  abbrev pub Steps : Type 0
  Steps =
      (S : Site) (k : ℕ) (m : A) (P : Port A) → Welcome S k m → is_in_order R (list_of (sender R m) P.masters) m ≡ true
      → (steps R m ≡ 254 → (not (known (sender R m) P.masters) && leb masters_max (length P.masters)) ≡ false → refusal R S k m P ≡ 0)
      × (steps R m ≡ 255 → refusal R S k m P ≡ 11)

  pub steps-removed : Steps
  steps-removed S k m P w o = (λ e r. taken S k m P w o (omega (arith, e)) r, λ e. refused_11 S k m P w o (omega (arith, e)))

-- ---- age

module _ {A : Type 0} (R : Reads A) where
  -- a port after a step: what it holds, and what it reports as aged out
  abbrev pub Leaves : ℕ → Port A → List A → List A → Type 0
  Leaves step P held out = (held_by (age_port R step P).port.masters ≡ held) × ((age_port R step P).aged_out ≡ out)

  -- Age 4 x interval - 1 kept; 4 x interval dropped: a message m anywhere on a port, between the messages xs and ys.
  abbrev pub Ages : Type 0
  Ages =
      Lawful R → (step : ℕ) (P : Port A) (xs : List A) (m : A) (ys : List A) → held_by P.masters ≡ xs ++ (m ∷ ys) → 1 ≤ P.interval
      → let stay = remaining R step (4 * P.interval) in
      let go = leaving R step (4 * P.interval) in
      (R.age m + step ≡ 4 * P.interval - 1 → Leaves step P (stay xs ++ (older R step m ∷ stay ys)) (go xs ++ go ys))
      × (R.age m + step ≡ 4 * P.interval → Leaves step P (stay xs ++ stay ys) (go xs ++ (older R step m ∷ go ys)))

  -- a port with one message of one master: it stays with its master, or both go
  abbrev pub alone : ℕ → PortIdentity → A → Port A
  alone n src m = record { interval = n; masters = record { source = src; messages = m ∷ [] } ∷ [] }

  abbrev pub AgesAlone : Type 0
  AgesAlone =
      Lawful R → (step n : ℕ) (src : PortIdentity) (m : A) → 1 ≤ n
      → (R.age m + step ≡ 4 * n - 1 → (age_port R step (alone n src m)).port ≡ alone n src (older R step m))
      × (R.age m + step ≡ 4 * n → (age_port R step (alone n src m)).port ≡ fresh_port n)

  module _ (law : Lawful R) (step limit : ℕ) (m : A) where
    -- its age below the limit, or not
    stays : R.age m + step < limit → young R limit (older R step m) ≡ true
    stays h = lt-ltb (R.age (older R step m)) limit (omega (arith, h, law.age m (R.age m + step)))

    goes : limit ≤ R.age m + step → young R limit (older R step m) ≡ false
    goes h = le-ltb (R.age (older R step m)) limit (omega (arith, h, law.age m (R.age m + step)))

  -- where the test of its age puts a message
  placed : (step : ℕ) (P : Port A) (xs : List A) (m : A) (ys : List A) → held_by P.masters ≡ xs ++ (m ∷ ys) → (b : Bool) → young R (4 * P.interval) (older R step m) ≡ b
      → let stay = remaining R step (4 * P.interval) in
      let go = leaving R step (4 * P.interval) in
      Leaves step P (stay xs ++ cond b (older R step m ∷ stay ys) (stay ys)) (go xs ++ cond (not b) (older R step m ∷ go ys) (go ys))
  unfolding remaining leaving
  placed step P xs m ys e b y =
      let limit = 4 * P.interval in
      let stay = remaining R step limit in
      let go = leaving R step limit in (
        held-aged R step P ∙ ap stay e ∙ remaining-append R step limit xs (m ∷ ys) ∙ ap (λ c. stay xs ++ cond c (older R step m ∷ stay ys) (stay ys)) y,
        out-aged R step P ∙ ap go e ∙ leaving-append R step limit xs (m ∷ ys) ∙ ap (λ c. go xs ++ cond (not c) (older R step m ∷ go ys) (go ys)) y,
      )

  pub ages : Ages
  ages law step P xs m ys e h = (
    λ a. placed step P xs m ys e true (stays law step (4 * P.interval) m (omega (arith, a, h))),
    λ a. placed step P xs m ys e false (goes law step (4 * P.interval) m (omega (arith, a))),
  )

  alone-after : (step n : ℕ) (src : PortIdentity) (m : A) (b : Bool) → young R (4 * n) (older R step m) ≡ b
      → (age_port R step (alone n src m)).port ≡ cond b (alone n src (older R step m)) (fresh_port n)
  unfolding age_port remaining
  alone-after step n src m true y = simp y
  alone-after step n src m false y = simp y

  pub ages-alone : AgesAlone
  ages-alone law step n src m h = (
    λ a. alone-after step n src m true (stays law step (4 * n) m (omega (arith, a, h))),
    λ a. alone-after step n src m false (goes law step (4 * n) m (omega (arith, a))),
  )
