-- A stretch of real calls in which no fresh start is taken is a stretch of calls on the book: with the same numbers, tallies and parts
-- of each port.
-- Assumes nothing.
use Rattle.std.specs.Prelude.{ℕ, ◌+◌, ◌≡◌, refl, Bool, false, cond, List, [], ◌∷◌, eqb, Result, Ok, Err}
use Rattle.std.proofs.Common.{sym, ap, ap₂, ◌∙◌, arith, ne_eqb}
use Rattle.choice.specs.Choice.{All}
use Rattle.frame.specs.declared.Message.{Message}
use Rattle.frame.specs.Frame.{read_frame}
use Rattle.slot.specs.declared.ForeignAnnounceMessage.{ForeignAnnounceMessage}
use Rattle.history.specs.Port.{Site, Turn, PortCall, bad, idle}
use Rattle.history.specs.Book.{Book, Call, register, share, answer_from, number, total, turns_from, turns, fresh_book}
use Rattle.history.specs.Sound.{startable}
use Rattle.history.proofs.Tests.{by}
use Rattle.histories.specs.History.{Event, start, call, noted, mine, step, run, book_turns}
use Rattle.histories.specs.Ledger.{grand_total}
use Rattle.histories.specs.Balance.{accepted_by}
use Rattle.histories.specs.Balance as balance
use Rattle.book.specs.Layout.{book_of, reads}
use Rattle.book.specs.Rules.{store_refusal}
use Rattle.foreign_master.specs.declared.Tallies.{Tallies}
use Rattle.foreign_master.specs.Calls.{frame_of}
use Rattle.refused.specs.declared.Refusal.{Refusal}
use Rattle.refused.specs.Refusal.{number_of}
use Rattle.refused.proofs.Laws.{number-positive}
use Rattle.foreign_master.proofs.Laws.{bad-number}
use Rattle.stored.specs.Calls.{StoreCall, fresh_start, register_frame, step_age, decide, Wired, exit_of, accepting, Going, event_at, share_of, run_store, Lasting, tallied, accepted_in, mine_of, follow, calls_of}
use Rattle.stored.proofs.Views.{number_at, tallies_at, call_view, call-answer}

-- ---- an event of a book before calls on it

-- a fresh start that is not taken
abbrev pub Passed : Event ForeignAnnounceMessage → Type 0
Passed (start S ns) = startable S.listed ns ≡ false
Passed (call c) = Unit

-- 1 for an announce that is accepted, by the number
abbrev accepting_at : Event ForeignAnnounceMessage → ℕ → ℕ
accepting_at (start S ns) x = 0
accepting_at (call c) x = balance.accepting c x

-- how many messages the ports' turns name
abbrev total_at : (Turn ForeignAnnounceMessage → List ForeignAnnounceMessage) → Event ForeignAnnounceMessage → Book ForeignAnnounceMessage → ℕ
total_at f (start S ns) B = 0
total_at f (call c) B = total f (turns reads c B)

-- what an event is to port k
abbrev pub share_at : ℕ → Event ForeignAnnounceMessage → PortCall ForeignAnnounceMessage
share_at k (start S ns) = idle
share_at k (call c) = share k c

-- a fresh start that is not taken leaves the book
pub passed-same : (S : Site) (ns : List ℕ) (B : Book ForeignAnnounceMessage) → Passed (start S ns) → step reads (start S ns) B ≡ B
passed-same S ns B p = ap (λ (b : Bool). cond b (fresh_book S ns) B) p

run-follow : (e : Event ForeignAnnounceMessage) (B : Book ForeignAnnounceMessage) (cs : List (Call ForeignAnnounceMessage)) → Passed e
    → run reads B (follow e cs) ≡ run reads (step reads e B) cs
run-follow (start S ns) B cs p = ap (λ (D : Book ForeignAnnounceMessage). run reads D cs) (sym (passed-same S ns B p))
run-follow (call c) B cs p = refl

accepted-follow : (e : Event ForeignAnnounceMessage) (B : Book ForeignAnnounceMessage) (cs : List (Call ForeignAnnounceMessage)) → Passed e
    → accepted_by reads B (follow e cs) ≡ accepting_at e (number_at e B) + accepted_by reads (step reads e B) cs
accepted-follow (start S ns) B cs p = omega (arith, ap (λ (D : Book ForeignAnnounceMessage). accepted_by reads D cs) (passed-same S ns B p))
accepted-follow (call c) B cs p = refl

total-follow : (f : Turn ForeignAnnounceMessage → List ForeignAnnounceMessage) (e : Event ForeignAnnounceMessage) (B : Book ForeignAnnounceMessage) (cs : List (Call ForeignAnnounceMessage)) → Passed e
    → grand_total f (book_turns reads B (follow e cs)) ≡ total_at f e B + grand_total f (book_turns reads (step reads e B) cs)
total-follow f (start S ns) B cs p = omega (arith, ap (λ (D : Book ForeignAnnounceMessage). grand_total f (book_turns reads D cs)) (passed-same S ns B p))
total-follow f (call c) B cs p = refl

mine-follow : (k : ℕ) (e : Event ForeignAnnounceMessage) (cs : List (Call ForeignAnnounceMessage)) → mine k (follow e cs) ≡ noted (share_at k e) (share_at k e) (mine k cs)
mine-follow k (start S ns) cs = refl
mine-follow k (call c) cs = refl

-- ---- one call

-- so a registration that answers 0 is of an announce
accepting_frame : (B : Book ForeignAnnounceMessage) (q : ℕ) (r : Result Message Refusal)
    → let c = register q (frame_of r) in
    cond (eqb (number c (turns reads c B)) 0) 1 0 ≡ balance.accepting c (number c (turns reads c B))
unfolding number turns
accepting_frame B q (Ok m) = refl
accepting_frame B q (Err r) =
    let n = number_of r in
    ap (λ (b : Bool). cond b 1 0) (ne_eqb (answer_from 1 q (turns_from reads B.site 1 (register q (bad n)) B.ports)) 0 (λ e. omega (arith, number-positive r, bad-number B.site n 1 q B.ports e)))

-- a call is to a port what its event is
pub share-same : (k : ℕ) (s : List ℕ) (c : StoreCall) → share_at k (event_at s c) ≡ share_of k c
share-same k s (fresh_start own any listed intervals) = refl
share-same k s (register_frame port frame) = refl
share-same k s (step_age step) = refl
share-same k s (decide p₁ quality p₂ listening) = refl

module _ (s : List ℕ) (checks : store_refusal s ≡ 0) where
  -- a call that is no fresh start taken is no event that starts
  pub passed : (c : StoreCall) → Going c s → Passed (event_at s c)
  passed (fresh_start own any listed intervals) g =
      by (λ b. (◌≡◌ {A = ℕ} (cond b 0 14) 0 → ⊥) → b ≡ false) (startable listed intervals) (λ y n. absurd (n refl)) (λ y n. refl)
      (λ z. g ((call-answer s checks (fresh_start own any listed intervals)).number ∙ z))
  passed (register_frame port frame) g = tt
  passed (step_age step) g = tt
  passed (decide p₁ quality p₂ listening) g = tt

  -- a call is accepted where its event is
  accepting-same : (c : StoreCall) → accepting c s ≡ accepting_at (event_at s c) (number_at (event_at s c) (book_of s))
  accepting-same (fresh_start own any listed intervals) = refl
  accepting-same (register_frame port frame) =
      ap (λ (n : ℕ). cond (eqb n 0) 1 0) (call-answer s checks (register_frame port frame)).number
      ∙ accepting_frame (book_of s) port (read_frame frame)
  accepting-same (step_age step) = refl
  accepting-same (decide p₁ quality p₂ listening) = refl

-- ---- a stretch

-- The calls that are something to a port do not depend on the store.
pub mine-calls : (k : ℕ) (s : List ℕ) (cs : List StoreCall) → mine k (calls_of s cs) ≡ mine_of k cs
mine-calls k s [] = refl
mine-calls k s (c ∷ cs) =
    mine-follow k (event_at s c) (calls_of (exit_of c s) cs)
    ∙ ap₂ (λ (x : PortCall ForeignAnnounceMessage) (l : List (PortCall ForeignAnnounceMessage)). noted x x l) (share-same k s c) (mine-calls k (exit_of c s) cs)

-- The book at the end is that of the calls on the book,
pub run-calls : (s : List ℕ) → store_refusal s ≡ 0 → (cs : List StoreCall) → All Wired cs → Lasting s cs → book_of (run_store s cs) ≡ run reads (book_of s) (calls_of s cs)
run-calls s checks [] w g = refl
run-calls s checks (c ∷ cs) w g =
    let v = call_view s checks c w.0 in
    let ds = calls_of (exit_of c s) cs in
    run-calls (exit_of c s) v.sound cs w.1 g.1
    ∙ ap (λ (B : Book ForeignAnnounceMessage). run reads B ds) v.book
    ∙ sym (run-follow (event_at s c) (book_of s) ds (passed s checks c g.0))

-- as many registrations are accepted,
pub accepted-calls : (s : List ℕ) → store_refusal s ≡ 0 → (cs : List StoreCall) → All Wired cs → Lasting s cs → accepted_in s cs ≡ accepted_by reads (book_of s) (calls_of s cs)
accepted-calls s checks [] w g = refl
accepted-calls s checks (c ∷ cs) w g =
    let v = call_view s checks c w.0 in
    let ds = calls_of (exit_of c s) cs in
    ap₂ ◌+◌ (accepting-same s checks c)
    (accepted-calls (exit_of c s) v.sound cs w.1 g.1 ∙ ap (λ (B : Book ForeignAnnounceMessage). accepted_by reads B ds) v.book)
    ∙ sym (accepted-follow (event_at s c) (book_of s) ds (passed s checks c g.0))

-- and a tally is as large.
module _ (f : Tallies → ℕ) (h : Turn ForeignAnnounceMessage → List ForeignAnnounceMessage)
    (same : (e : Event ForeignAnnounceMessage) (B : Book ForeignAnnounceMessage) → f (tallies_at e B) ≡ total_at h e B) where
  tallied-calls : (s : List ℕ) → store_refusal s ≡ 0 → (cs : List StoreCall) → All Wired cs → Lasting s cs → tallied f s cs ≡ grand_total h (book_turns reads (book_of s) (calls_of s cs))
  tallied-calls s checks [] w g = refl
  tallied-calls s checks (c ∷ cs) w g =
      let v = call_view s checks c w.0 in
      let ds = calls_of (exit_of c s) cs in
      ap₂ ◌+◌ (ap f (call-answer s checks c).tallies ∙ same (event_at s c) (book_of s))
      (tallied-calls (exit_of c s) v.sound cs w.1 g.1 ∙ ap (λ (B : Book ForeignAnnounceMessage). grand_total h (book_turns reads B ds)) v.book)
      ∙ sym (total-follow h (event_at s c) (book_of s) ds (passed s checks c g.0))

module _ (s : List ℕ) (checks : store_refusal s ≡ 0) (cs : List StoreCall) (w : All Wired cs) (g : Lasting s cs) where
  abbrev Tss : List (List (Turn ForeignAnnounceMessage))
  Tss = book_turns reads (book_of s) (calls_of s cs)

  -- those evicted
  pub evicted-calls : tallied (λ t. t.evicted) s cs ≡ grand_total (λ T. T.evicted) Tss
  evicted-calls = tallied-calls (λ t. t.evicted) (λ T. T.evicted) same s checks cs w g
    where
      same : (e : Event ForeignAnnounceMessage) (B : Book ForeignAnnounceMessage) → (tallies_at e B).evicted ≡ total_at (λ T. T.evicted) e B
      same (start S ns) B = refl
      same (call c) B = refl

  -- those aged out
  pub aged-calls : tallied (λ t. t.aged_out) s cs ≡ grand_total (λ T. T.aged_out) Tss
  aged-calls = tallied-calls (λ t. t.aged_out) (λ T. T.aged_out) same s checks cs w g
    where
      same : (e : Event ForeignAnnounceMessage) (B : Book ForeignAnnounceMessage) → (tallies_at e B).aged_out ≡ total_at (λ T. T.aged_out) e B
      same (start S ns) B = refl
      same (call c) B = refl

  -- and those consumed
  pub consumed-calls : tallied (λ t. t.consumed) s cs ≡ grand_total (λ T. T.consumed) Tss
  consumed-calls = tallied-calls (λ t. t.consumed) (λ T. T.consumed) same s checks cs w g
    where
      same : (e : Event ForeignAnnounceMessage) (B : Book ForeignAnnounceMessage) → (tallies_at e B).consumed ≡ total_at (λ T. T.consumed) e B
      same (start S ns) B = refl
      same (call c) B = refl
