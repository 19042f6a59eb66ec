-- A decision of a book is the decision of the crate `states` on the book's candidates, so demand 3 holds at every decision.
-- Assumes nothing.
use Rattle.std.specs.Prelude.{◌≡◌, true, false, cond, ◌&&◌, ℕ, suc, Some}
use Rattle.std.proofs.Math.Path.{refl, sym, ap, ap₂}
use Rattle.std.proofs.Common.{◌∙◌}
use mathlib.Core.List.{List, [], ◌∷◌, ◌++◌, map, map-append, Memᴰ}
use Rattle.std.proofs.lemmas.Bool.{eqb-false}
use Rattle.header.specs.declared.PortIdentity.{PortIdentity}
use Rattle.wire.specs.Below.{both}
use Rattle.same.specs.Same.{same-port-eq}
use Rattle.compare.specs.declared.InternalDefaultDS.{InternalDefaultDS}
use Rattle.compare.specs.Dataset.{compare_of, ranks_above}
use Rattle.choice.specs.declared.BestAnnounceMessage.{BestAnnounceMessage}
use Rattle.choice.specs.Choice.{choose, joined, All}
use Rattle.choice.specs.Candidate.{dataset_of, whole, stays_by, winner, erbests, ebest, single}
use Rattle.agreement.specs.Agreement.{SameData, Foreign, Agreeing}
use Rattle.choice.proofs.Chosen.{choose-map, all-at}
use Rattle.agreement.proofs.Winner.{choosing_once, erbest-none-above, ebest-none-above}
use Rattle.states.specs.Ports.{answers_of, ebest_of, decision_of}
use Rattle.states.specs.Slave.{recommends_s1, slave_port, flags_from, flags, ones, Received}
use Rattle.states.proofs.Slave.{decision-flags, decision-count}
use Rattle.history.specs.Rules.{age_limit}
use Rattle.history.specs.Port.{Reads, sender, Master, Port, Site, Turn, receiver, newest, offered, Offer, best_of, offer_of, offers_from, candidates, chosen, decide_port}
use Rattle.history.specs.Book.{Book, decide, states_of, turns_from, turns}
use Rattle.history.specs.Sound.{every, holdable, follows, sound_after, sound_messages, sound_master, sound_port, sound_book}
use Rattle.history.proofs.Parts.{master-parts, port-parts, book-parts}
use Rattle.history.proofs.Messages.{holdable-parts}
use Rattle.histories.specs.History.{candidates_from, candidates_of}

-- ---- Erbest, Ebest and the states

module _ {A : Type 0} (R : Reads A) where
  -- the offers are the candidates, each with a place
  offer-candidates : (r : PortIdentity) (i : ℕ) (M : Master A) → map (λ (o : Offer). o.best) (offer_of R r i M) ≡ map (best_of R r) (offered M.messages)
  offer-candidates r i M = pick M.messages
    where
      pick : (ms : List A) → map (λ (o : Offer). o.best) (map (λ m. record { place = i; best = best_of R r m }) (offered ms)) ≡ map (best_of R r) (offered ms)
      pick [] = refl
      pick (x ∷ []) = refl
      pick (x ∷ y ∷ ys) = refl

  -- the offers are the candidates, each with the place of its master
  pub offers-candidates : (r : PortIdentity) (i : ℕ) (Ms : List (Master A)) → map (λ (o : Offer). o.best) (offers_from R r i Ms) ≡ candidates R r Ms
  offers-candidates r i [] = refl
  offers-candidates r i (M ∷ Ms) =
      map-append (λ (o : Offer). o.best) (offers_from R r (suc i) Ms) (offer_of R r i M) ∙ ap₂ ◌++◌ (offers-candidates r (suc i) Ms) (offer-candidates r i M)

  -- Erbest of a port is the winner of its candidates,
  pub best-winner : (S : Site) (k : ℕ) (P : Port A) → (decide_port R S k P).best ≡ winner whole (candidates R (receiver S k) P.masters)
  unfolding decide_port chosen winner
  best-winner S k P =
      let os = offers_from R (receiver S k) 0 P.masters in
      let best : Offer → BestAnnounceMessage = λ o. o.best in
      sym (choose-map best (stays_by whole) os) ∙ ap (choose (stays_by whole)) (offers-candidates (receiver S k) 0 P.masters)

  best_winners : (own : InternalDefaultDS) (listening : ℕ) (S : Site) (k : ℕ) (Ps : List (Port A))
      → map (λ (T : Turn A). T.best) (turns_from R S k (decide own listening) Ps) ≡ erbests whole (candidates_from R S k Ps)
  unfolding erbests
  best_winners own listening S k [] = refl
  best_winners own listening S k (P ∷ Ps) = ap₂ ◌∷◌ (best-winner S k P) (best_winners own listening S (suc k) Ps)

  module _ (own : InternalDefaultDS) (listening : ℕ) (B : Book A) where
    -- so of each port,
    pub erbests_winners : map (λ (T : Turn A). T.best) (turns R (decide own listening) B) ≡ erbests whole (candidates_of R B)
    unfolding turns
    erbests_winners = best_winners own listening B.site 1 B.ports

    -- Ebest is the winner among those,
    pub ebest-winner : ebest_of (map (λ (T : Turn A). T.best) (turns R (decide own listening) B)) ≡ ebest whole (candidates_of R B)
    unfolding ebest_of ebest
    ebest-winner = ap ebest_of erbests_winners

    -- and the states are those of the decision on the candidates.
    pub states-decision : states_of own listening (turns R (decide own listening) B) ≡ decision_of own listening (candidates_of R B)
    states-decision = ap (answers_of own listening) erbests_winners

-- ---- what the candidates of a book have

all_append : {A : Type 0} (P : A → Type 0) (xs ys : List A) → All P xs → All P ys → All P (xs ++ ys)
all_append P [] ys p q = q
all_append P (x ∷ xs) ys p q = (p.0, all_append P xs ys p.1 q)

module _ {A : Type 0} (R : Reads A) where
  -- the candidates of port k were received by it
  received-by : (S : Site) (k : ℕ) (Ms : List (Master A)) → All (λ b. b.identity.port_number ≡ k) (candidates R (receiver S k) Ms)
  received-by S k [] = tt
  received-by S k (M ∷ Ms) =
      let Q : BestAnnounceMessage → Type 0 = λ b. b.identity.port_number ≡ k in
      all_append Q (candidates R (receiver S k) Ms) (map (best_of R (receiver S k)) (offered M.messages)) (received-by S k Ms) (pick M.messages)
    where
      pick : (ms : List A) → All (λ b. b.identity.port_number ≡ k) (map (best_of R (receiver S k)) (offered ms))
      pick [] = tt
      pick (x ∷ []) = tt
      pick (x ∷ y ∷ ys) = (refl, tt)

  received-from : (S : Site) (k : ℕ) (Ps : List (Port A)) → Received k (candidates_from R S k Ps)
  received-from S k [] = tt
  received-from S k (P ∷ Ps) = (received-by S k P.masters, received-from S (suc k) Ps)

  -- The candidates of each port were received by it.
  pub received : (B : Book A) → Received 1 (candidates_of R B)
  received B = received-from B.site 1 B.ports

  -- a message that is offered by a sound list has its master's identity
  newest-sender : (src : PortIdentity) (limit : ℕ) (x : A) (xs : List A) → holdable R src limit x ≡ true → sound_after R src limit x xs ≡ true
      → sender R (newest x xs) ≡ src
  newest-sender src limit x [] h s = same-port-eq (sender R x) src (holdable-parts R src limit x h).sent
  newest-sender src limit x (y ∷ ys) h s =
      let t = both (holdable R src limit y && follows R x y) (sound_after R src limit y ys) s in
      newest-sender src limit y ys (both (holdable R src limit y) (follows R x y) t.0).0 t.1

  -- none that port k received was sent by our clock
  foreign-by : (S : Site) (k limit : ℕ) (Ms : List (Master A)) → every (sound_master R S limit) Ms ≡ true
      → All (λ b. Foreign (dataset_of (whole b))) (candidates R (receiver S k) Ms)
  foreign-by S k limit [] s = tt
  foreign-by S k limit (M ∷ Ms) s =
      let f = sound_master R S limit in
      let t = both (f M) (every f Ms) s in
      let p = master-parts R S limit M t.0 in
      let Q : BestAnnounceMessage → Type 0 = λ b. Foreign (dataset_of (whole b)) in
      all_append Q (candidates R (receiver S k) Ms) (map (best_of R (receiver S k)) (offered M.messages)) (foreign-by S k limit Ms t.1)
      (pick M.source (eqb-false M.source.clock_identity S.own p.foreign) M.messages p.messages)
    where
      pick : (src : PortIdentity) → (src.clock_identity ≡ S.own → ⊥) → (ms : List A) → sound_messages R src limit ms ≡ true
          → All (λ b. Foreign (dataset_of (whole b))) (map (best_of R (receiver S k)) (offered ms))
      pick src n [] s = tt
      pick src n (x ∷ []) s = tt
      pick src n (x ∷ y ∷ ys) s =
          let t = both (holdable R src limit x) (sound_after R src limit x (y ∷ ys)) s in
          (λ e. n (sym (e ∙ ap (λ (q : PortIdentity). q.clock_identity) (newest-sender src limit x (y ∷ ys) t.0 t.1))), tt)

  foreign-from : (S : Site) (k : ℕ) (Ps : List (Port A)) → every (sound_port R S) Ps ≡ true
      → All (λ b. Foreign (dataset_of (whole b))) (joined (candidates_from R S k Ps))
  foreign-from S k [] s = tt
  foreign-from S k (P ∷ Ps) s =
      let f = sound_port R S in
      let t = both (f P) (every f Ps) s in
      all_append (λ b. Foreign (dataset_of (whole b))) (candidates R (receiver S k) P.masters) (joined (candidates_from R S (suc k) Ps))
      (foreign-by S k (age_limit P.interval) P.masters (port-parts R S P t.0).masters) (foreign-from S (suc k) Ps t.1)

  -- No candidate of a sound book was sent by our clock.
  pub foreign : (B : Book A) → sound_book R B ≡ true → All (λ b. Foreign (dataset_of (whole b))) (joined (candidates_of R B))
  foreign B s = foreign-from B.site 1 B.ports (book-parts R B s).ports

-- ---- demand 3, of any book, so at every decision of every history

module _ {A : Type 0} (R : Reads A) (own : InternalDefaultDS) (listening : ℕ) (B : Book A) where
  -- S1 is recommended to the port that received Ebest, and to no other port,
  pub slave-flags : flags (states_of own listening (turns R (decide own listening) B))
      ≡ flags_from (slave_port own (ebest whole (candidates_of R B))) 1 (erbests whole (candidates_of R B))
  slave-flags = ap flags (states-decision R own listening B) ∙ decision-flags own listening (candidates_of R B) (received R B)

  -- so to exactly one port when our class lies outside 1 to 127, there is a candidate and our own data ranks below Ebest; else to none.
  pub slave-count : ones (flags (states_of own listening (turns R (decide own listening) B))) ≡ cond (recommends_s1 own (ebest whole (candidates_of R B))) 1 0
  slave-count = ap (λ answers. ones (flags answers)) (states-decision R own listening B) ∙ decision-count own listening (candidates_of R B) (received R B)

module _ {A : Type 0} (R : Reads A) (B : Book A) where
  -- candidates of one grandmaster agree on priority 1, class, accuracy, variance and priority 2
  abbrev pub Agreed : Type 0
  Agreed =
      (x y : BestAnnounceMessage) → Memᴰ x (joined (candidates_of R B)) → Memᴰ y (joined (candidates_of R B))
      → (whole x).gm_identity ≡ (whole y).gm_identity → SameData (dataset_of (whole x)) (dataset_of (whole y))

  module _ (s : sound_book R B ≡ true) (a : Agreed) where
    -- then a sound book gives what the laws of the choice ask for,
    pub agreeing : Agreeing whole (joined (candidates_of R B))
    agreeing = record { foreign = λ x m. all-at (λ b. Foreign (dataset_of (whole b))) x (joined (candidates_of R B)) (foreign R B s) m; agree = a }

    -- a single choice over the candidates of all ports gives Ebest,
    pub single-ebest : single whole (candidates_of R B) ≡ ebest whole (candidates_of R B)
    single-ebest = choosing_once whole (candidates_of R B) agreeing

    -- no candidate of a port ranks above its Erbest,
    pub none-above-erbest :
        (bs : List BestAnnounceMessage) → Memᴰ bs (candidates_of R B) → (w : BestAnnounceMessage) → winner whole bs ≡ Some w
        → (x : BestAnnounceMessage) → Memᴰ x bs → ranks_above (compare_of (dataset_of (whole x)) (dataset_of (whole w))) ≡ false
    none-above-erbest = erbest-none-above whole (candidates_of R B) agreeing

    -- and none of any port above Ebest.
    pub none-above-ebest :
        (w : BestAnnounceMessage) → ebest whole (candidates_of R B) ≡ Some w
        → (x : BestAnnounceMessage) → Memᴰ x (joined (candidates_of R B)) → ranks_above (compare_of (dataset_of (whole x)) (dataset_of (whole w))) ≡ false
    none-above-ebest = ebest-none-above whole (candidates_of R B) agreeing
