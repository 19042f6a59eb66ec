-- What the real calls report of a port is what the turns of that port alone tell.
-- Assumes nothing.
use Rattle.std.specs.Prelude.{ℕ, zero, suc, ◌+◌, ◌≡◌, ltb, eqb, get_or, None}
use Rattle.std.specs.Prelude as rust
use Rattle.std.proofs.Math.Path.{refl, sym, ap}
use Rattle.std.proofs.Common.{ap₂, ◌∙◌, eqb-true}
use Rattle.std.proofs.Math.Bool.{Bool, cond}
use mathlib.Core.List.{List, [], ◌∷◌, map}
use Rattle.std.proofs.Math.Option
use Rattle.std.proofs.Math.Option.{Option, none, some, some-injective, none-ne-some}
use Rattle.std.proofs.Math.ListN.{get_elem?}
use Rattle.choice.specs.declared.BestAnnounceMessage.{BestAnnounceMessage}
use Rattle.choice.specs.Choice.{All}
use Rattle.frame.specs.Frame.{read_frame}
use Rattle.slot.specs.Blocks.{block}
use Rattle.slot.specs.declared.ForeignAnnounceMessage.{ForeignAnnounceMessage}
use Rattle.history.specs.Rules.{step_max}
use Rattle.history.specs.Port.{Site, Port, Turn, Frame, bad, announce, PortCall, idle, hear, pass, judge, unchanged, taking, refusal, register_port, hearing, age_port, decide_port, turn}
use Rattle.history.specs.Book.{Book, Call, age, share, number, turns}
use Rattle.history.proofs.Tests.{by}
use Rattle.histories.specs.History.{Event, start, call, noted, step, reports}
use Rattle.histories.proofs.Independence.{turn_alone, port-alone, number-alone, nth-map}
use Rattle.book.specs.Below.{tab}
use Rattle.book.specs.Layout.{port_words, port_at, port_of, book_of, reads}
use Rattle.book.specs.Rules.{store_refusal}
use Rattle.book.proofs.Rules.{checked}
use Rattle.foreign_master.specs.Calls.{frame_of, register_call}
use Rattle.bmca.specs.Decide.{own_in, decide_call, erbest_at}
use Rattle.bmca.proofs.View.{erbests_view}
use Rattle.stored.specs.Calls.{StoreCall, fresh_start, register_frame, step_age, decide, Wired, exit_of, number_of, event_at, share_of, Report, report_of, reports_of, Lasting, follow, calls_of}
use Rattle.stored.proofs.Views.{call_view, call-answer}
use Rattle.stored.proofs.Stretch.{Passed, share_at, passed-same, share-same, passed}

-- an element that is there is the function's value
nth_of : {A : Type 0} (n : ℕ) (f : ℕ → A) (i : ℕ) (x : A) → get_elem? (tab n f) i ≡ some x → f i ≡ x
nth_of zero f i x e = absurd (none-ne-some x e)
nth_of (suc n) f zero x e = some-injective (f 0) x e
nth_of (suc n) f (suc i) x e = nth_of n (λ k. f (suc k)) i x e

-- a port of the book is its words
pub port-words : (t : List ℕ) (i : ℕ) (P : Port ForeignAnnounceMessage) → get_elem? (book_of t).ports i ≡ some P → port_of (block t (port_at i) port_words) ≡ P
unfolding book_of
port-words t i P e = nth_of (get_or t 0 0) (λ q. port_of (block t (port_at q) port_words)) i P e

-- a registration has no Erbest
hearing-best : (S : Site) (k : ℕ) (g : Frame ForeignAnnounceMessage) (P : Port ForeignAnnounceMessage) → (hearing reads S k g P).best ≡ None
unfolding register_port
hearing-best S k (bad n) P = refl
hearing-best S k (announce m) P =
    by (λ b. (cond b (taking reads m P) (unchanged (refusal reads S k m P) P)).best ≡ None) (eqb (refusal reads S k m P) 0) (λ t. refl) (λ t. refl)

-- a turn as a report
abbrev pub told : Option (Turn ForeignAnnounceMessage) → Report
told none = record { answer = 0; erbest = None }
told (some T) = record { answer = T.answer; erbest = T.best }

report_eq : {n m : ℕ} {a b : rust.Option BestAnnounceMessage} → n ≡ m → a ≡ b → ◌≡◌ {A = Report} (record { answer = n; erbest = a }) (record { answer = m; erbest = b })
report_eq p q = λ i. record { answer = p i; erbest = q i }

map-noted : {X Y : Type 0} (f : X → Y) (c : PortCall ForeignAnnounceMessage) (x : X) (xs : List X) → map f (noted c x xs) ≡ noted c (f x) (map f xs)
map-noted f idle x xs = refl
map-noted f (hear g) x xs = refl
map-noted f (pass step) x xs = refl
map-noted f judge x xs = refl

-- ---- an event of a book before calls on it

abbrev turn_at : ℕ → Event ForeignAnnounceMessage → Book ForeignAnnounceMessage → Option (Turn ForeignAnnounceMessage)
turn_at i (start S ns) B = none
turn_at i (call c) B = get_elem? (turns reads c B) i

reports-follow : (i : ℕ) (e : Event ForeignAnnounceMessage) (B : Book ForeignAnnounceMessage) (cs : List (Call ForeignAnnounceMessage)) → Passed e
    → reports reads i B (follow e cs) ≡ noted (share_at (1 + i) e) (turn_at i e B) (reports reads i (step reads e B) cs)
reports-follow i (start S ns) B cs p = ap (λ (D : Book ForeignAnnounceMessage). reports reads i D cs) (sym (passed-same S ns B p))
reports-follow i (call c) B cs p = refl

-- the port after it
abbrev port_after : ℕ → Event ForeignAnnounceMessage → Book ForeignAnnounceMessage → Port ForeignAnnounceMessage → Port ForeignAnnounceMessage
port_after i (start S ns) B P = P
port_after i (call c) B P = (turn reads B.site (1 + i) (share (1 + i) c) P).port

port-follow : (i : ℕ) (e : Event ForeignAnnounceMessage) (B : Book ForeignAnnounceMessage) (P : Port ForeignAnnounceMessage) → Passed e → get_elem? B.ports i ≡ some P
    → get_elem? (step reads e B).ports i ≡ some (port_after i e B P)
port-follow i (start S ns) B P p there = ap (λ (D : Book ForeignAnnounceMessage). get_elem? D.ports i) (passed-same S ns B p) ∙ there
port-follow i (call c) B P p there = port-alone reads i c B P there

-- ---- one call

module _ (s : List ℕ) (checks : store_refusal s ≡ 0) (i : ℕ) (P : Port ForeignAnnounceMessage) (there : get_elem? (book_of s).ports i ≡ some P) where
  abbrev B : Book ForeignAnnounceMessage
  B = book_of s

  abbrev at : Call ForeignAnnounceMessage → Turn ForeignAnnounceMessage
  at c = turn reads B.site (1 + i) (share (1 + i) c) P

  told_is : (c : Call ForeignAnnounceMessage) → told (get_elem? (turns reads c B) i) ≡ told (some (at c))
  told_is c = ap told (turn_alone reads i c B P there)

  -- its own frame
  heard : (frame : List ℕ) → report_of i (register_frame (1 + i) frame) s ≡ record { answer = (hearing reads B.site (1 + i) (frame_of (read_frame frame)) P).answer; erbest = (hearing reads B.site (1 + i) (frame_of (read_frame frame)) P).best }
  heard frame =
      let f = frame_of (read_frame frame) in
      report_eq ((call-answer s checks (register_frame (1 + i) frame)).number ∙ number-alone reads f B i P there) (sym (hearing-best B.site (1 + i) f P))

  report_turn : (c : StoreCall) (rs : List Report) → noted (share_of (1 + i) c) (report_of i c s) rs ≡ noted (share_of (1 + i) c) (told (turn_at i (event_at s c) B)) rs
  unfolding number age_port decide_port
  report_turn (fresh_start own any listed intervals) rs = refl
  report_turn (register_frame port frame) rs =
      let c = register_call port frame in
      let f = frame_of (read_frame frame) in
      let part : Bool → PortCall ForeignAnnounceMessage = λ b. cond b (hear f) idle in
      by
      (λ b. noted (part b) (report_of i (register_frame port frame) s) rs ≡ noted (part b) (told (some (turn reads B.site (1 + i) (part b) P))) rs)
      (eqb port (1 + i)) (λ y. ap (λ (r : Report). r ∷ rs) (ap (λ (q : ℕ). report_of i (register_frame q frame) s) (eqb-true port (1 + i) y) ∙ heard frame)) (λ y. refl)
      ∙ ap (λ (r : Report). noted (share_of (1 + i) (register_frame port frame)) r rs) (sym (told_is c))
  report_turn (step_age step) rs =
      let part : Bool → PortCall ForeignAnnounceMessage = λ b. cond b (pass step) idle in
      by
      (λ b. number_of (step_age step) s ≡ cond b 0 13 → noted (part b) (report_of i (step_age step) s) rs ≡ noted (part b) (told (some (turn reads B.site (1 + i) (part b) P))) rs)
      (ltb step step_max) (λ y e. ap (λ (r : Report). r ∷ rs) (report_eq e refl)) (λ y e. refl) (call-answer s checks (step_age step)).number
      ∙ ap (λ (r : Report). noted (share_of (1 + i) (step_age step)) r rs) (sym (told_is (age step)))
  report_turn (decide p₁ quality p₂ listening) rs =
      let c = decide_call B p₁ quality p₂ listening in
      let best : Turn ForeignAnnounceMessage → rust.Option BestAnnounceMessage = λ T. T.best in
      let erbest : erbest_at s i ≡ (at c).best =
      nth_of (get_or s 0 0) (erbest_at s) i (at c).best
      (ap (λ (l : List (rust.Option BestAnnounceMessage)). get_elem? l i) (erbests_view s (checked s checks).room (checked s checks).sound (own_in B p₁ quality p₂) listening)
      ∙ nth-map best (turns reads c B) i ∙ ap (Option.map best) (turn_alone reads i c B P there)) in
      ap (λ (r : Report). r ∷ rs) (report_eq (call-answer s checks (decide p₁ quality p₂ listening)).number erbest ∙ sym (told_is c))

-- ---- a stretch

-- The reports of a port are those of its turns.
pub reports-turns : (s : List ℕ) → store_refusal s ≡ 0 → (i : ℕ) (P : Port ForeignAnnounceMessage) → get_elem? (book_of s).ports i ≡ some P → (cs : List StoreCall) → All Wired cs → Lasting s cs
    → reports_of i s cs ≡ map told (reports reads i (book_of s) (calls_of s cs))
reports-turns s checks i P there [] w g = refl
reports-turns s checks i P there (c ∷ cs) w g =
    let v = call_view s checks c w.0 in
    let e = event_at s c in
    let ds = calls_of (exit_of c s) cs in
    let p = passed s checks c g.0 in
    let next = ap (λ (D : Book ForeignAnnounceMessage). get_elem? D.ports i) v.book ∙ port-follow i e (book_of s) P p there in
    let rest = reports-turns (exit_of c s) v.sound i (port_after i e (book_of s) P) next cs w.1 g.1
    ∙ ap (λ (D : Book ForeignAnnounceMessage). map told (reports reads i D ds)) v.book in
    report_turn s checks i P there c (reports_of i (exit_of c s) cs)
    ∙ ap₂ (λ (x : PortCall ForeignAnnounceMessage) (l : List Report). noted x (told (turn_at i e (book_of s))) l) (sym (share-same (1 + i) s c)) rest
    ∙ sym (map-noted told (share_at (1 + i) e) (turn_at i e (book_of s)) (reports reads i (step reads e (book_of s)) ds))
    ∙ ap (map told) (sym (reports-follow i e (book_of s) ds p))
