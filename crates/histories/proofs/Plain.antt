-- A port with numbered messages, its numbers forgotten, is the port: no rule reads a number.
-- Assumes nothing.
use Rattle.std.specs.Prelude.{◌≡◌, Bool, ◌||◌, ℕ, suc, ltb, leb, eqb, length, take, drop, Option}
use Rattle.std.proofs.Math.Path.{refl, ap}
use Rattle.std.proofs.Common.{ap₂, ◌∙◌}
use Rattle.std.proofs.Math.Bool.{cond, not}
use mathlib.Core.List.{List, [], ◌∷◌, ◌++◌, map, map-append}
use Rattle.std.proofs.Math.ListN.{length-map}
use Rattle.header.specs.declared.PortIdentity.{PortIdentity}
use Rattle.same.specs.Same.{same_port}
use Rattle.choice.specs.declared.BestAnnounceMessage.{BestAnnounceMessage}
use Rattle.choice.specs.Choice.{joined}
use Rattle.choice.specs.Candidate.{winner}
use Rattle.history.specs.Rules.{messages_max, in_step, age_limit}
use Rattle.history.specs.Port.{Reads, sender, sequence, best_of, Master, Port, Site, Turn, receiver, push, put_out, newest, others, offered, spared, sift, list_of, known, admit, with, holding, has_messages, is_in_order, unchanged, taking, refusal, register_port, older, young, remaining, leaving, age_master, age_port, Offer, shown, won_by, offer_of, offers_from, chosen, settled_from, consumed_from, decide_port, bad, announce, PortCall, idle, hear, pass, judge, turn}
use Rattle.history.proofs.Tests.{by}
use Rattle.histories.specs.Ledger.{Numbered, numbered_reads, bodies, plain_master, plain_port, plain_turn, stamp}

-- ---- lists of messages under any function

module _ {A B : Type 0} (f : A → B) where
  map-take : (ms : List A) → map f (take 1 ms) ≡ take 1 (map f ms)
  map-take [] = refl
  map-take (x ∷ xs) = refl

  map-drop : (ms : List A) → map f (drop 1 ms) ≡ drop 1 (map f ms)
  map-drop [] = refl
  map-drop (x ∷ xs) = refl

  map_push : (ms : List A) (m : A) → map f (push ms m) ≡ push (map f ms) (f m)
  unfolding push
  map_push ms m =
      rw (length-map ms f)
      (by (λ b. map f (cond b (ms ++ (m ∷ [])) (drop 1 ms ++ (m ∷ []))) ≡ cond b (map f ms ++ (f m ∷ [])) (drop 1 (map f ms) ++ (f m ∷ []))) (ltb (length ms) messages_max)
      (λ t. map-append f ms (m ∷ [])) (λ t. map-append f (drop 1 ms) (m ∷ []) ∙ ap (λ (l : List B). l ++ (f m ∷ [])) (map-drop ms)))

  map-put_out : (ms : List A) → map f (put_out ms) ≡ put_out (map f ms)
  unfolding put_out
  map-put_out ms = rw (length-map ms f) (by (λ b. map f (cond b [] (take 1 ms)) ≡ cond b [] (take 1 (map f ms))) (ltb (length ms) messages_max) (λ t. refl) (λ t. map-take ms))

  map-newest : (x : A) (xs : List A) → f (newest x xs) ≡ newest (f x) (map f xs)
  map-newest x [] = refl
  map-newest x (y ∷ ys) = map-newest y ys

  map-others : (x : A) (xs : List A) → map f (others x xs) ≡ others (f x) (map f xs)
  map-others x [] = refl
  map-others x (y ∷ ys) = ap (λ (l : List B). f x ∷ l) (map-others y ys)

  map-offered : (ms : List A) → map f (offered ms) ≡ offered (map f ms)
  map-offered [] = refl
  map-offered (x ∷ []) = refl
  map-offered (x ∷ y ∷ ys) = ap (λ (z : B). z ∷ []) (map-newest y ys)

  map-spared : (ms : List A) → map f (spared ms) ≡ spared (map f ms)
  map-spared [] = refl
  map-spared (x ∷ []) = refl
  map-spared (x ∷ y ∷ ys) = ap (λ (l : List B). f x ∷ l) (map-others y ys)

  map-sift : (p : A → Bool) (q : B → Bool) → ((a : A) → q (f a) ≡ p a) → (xs : List A) → map f (sift p xs) ≡ sift q (map f xs)
  map-sift p q e [] = refl
  map-sift p q e (x ∷ xs) =
      rw (e x)
      (by (λ b. map f (cond b (x ∷ sift p xs) (sift p xs)) ≡ cond b (f x ∷ sift q (map f xs)) (sift q (map f xs))) (p x) (λ t. ap (λ (l : List B). f x ∷ l) (map-sift p q e xs)) (λ t. map-sift p q e xs))

turn-eq : {A : Type 0} {p p' : Port A} {n n' : ℕ} {b b' : Option BestAnnounceMessage} {t t' e e' a a' c c' : List A} → p ≡ p' → n ≡ n' → b ≡ b' → t ≡ t' → e ≡ e' → a ≡ a' → c ≡ c'
    → ◌≡◌ {A = Turn A} (record { port = p; answer = n; best = b; taken = t; evicted = e; aged_out = a; consumed = c })
    (record { port = p'; answer = n'; best = b'; taken = t'; evicted = e'; aged_out = a'; consumed = c' })
turn-eq q₁ q₂ q₃ q₄ q₅ q₆ q₇ = cc

module _ {A : Type 0} where
  abbrev body : Numbered A → A
  body a = a.body

  master-eq : {s s' : PortIdentity} {l l' : List A} → s ≡ s' → l ≡ l' → ◌≡◌ {A = Master A} (record { source = s; messages = l }) (record { source = s'; messages = l' })
  master-eq p q = cc

  holding-eq : (P : Port (Numbered A)) (Ms : List (Master (Numbered A))) (Ns : List (Master A)) → map plain_master Ms ≡ Ns → plain_port (holding P Ms) ≡ holding (plain_port P) Ns
  holding-eq P Ms Ns e = ap (holding (plain_port P)) e

  -- ---- masters

  plain-list_of : (src : PortIdentity) (Ms : List (Master (Numbered A))) → bodies (list_of src Ms) ≡ list_of src (map plain_master Ms)
  plain-list_of src [] = refl
  plain-list_of src (M ∷ Ms) =
      by (λ b. bodies (cond b M.messages (list_of src Ms)) ≡ cond b (bodies M.messages) (list_of src (map plain_master Ms))) (same_port M.source src) (λ t. refl) (λ t. plain-list_of src Ms)

  plain_known : (src : PortIdentity) (Ms : List (Master (Numbered A))) → known src Ms ≡ known src (map plain_master Ms)
  plain_known src [] = refl
  plain_known src (M ∷ Ms) = ap (λ (b : Bool). same_port M.source src || b) (plain_known src Ms)

  plain-admit : (src : PortIdentity) (m : Numbered A) (Ms : List (Master (Numbered A))) → map plain_master (admit src m Ms) ≡ admit src m.body (map plain_master Ms)
  plain-admit src m [] = refl
  plain-admit src m (M ∷ Ms) =
      by (λ b. map plain_master (cond b (with M (push M.messages m) ∷ Ms) (M ∷ admit src m Ms))
      ≡ cond b (with (plain_master M) (push (bodies M.messages) m.body) ∷ map plain_master Ms) (plain_master M ∷ admit src m.body (map plain_master Ms))) (same_port M.source src)
      (λ t. ap (λ (l : List A). with (plain_master M) l ∷ map plain_master Ms) (map_push body M.messages m)) (λ t. ap (λ (l : List (Master A)). plain_master M ∷ l) (plain-admit src m Ms))

  plain-settled : (w : Option Offer) (i : ℕ) (Ms : List (Master (Numbered A))) → map plain_master (settled_from w i Ms) ≡ settled_from w i (map plain_master Ms)
  plain-settled w i [] = refl
  plain-settled w i (M ∷ Ms) =
      ap₂ ◌∷◌
      (ap (with (plain_master M))
      (by (λ b. bodies (cond b M.messages (spared M.messages)) ≡ cond b (bodies M.messages) (spared (bodies M.messages))) (won_by w i) (λ t. refl) (λ t. map-spared body M.messages)))
      (plain-settled w (suc i) Ms)

  plain-consumed : (w : Option Offer) (i : ℕ) (Ms : List (Master (Numbered A))) → bodies (consumed_from w i Ms) ≡ consumed_from w i (map plain_master Ms)
  plain-consumed w i [] = refl
  plain-consumed w i (M ∷ Ms) =
      map-append body (cond (won_by w i) [] (offered M.messages)) (consumed_from w (suc i) Ms)
      ∙ ap₂ ◌++◌
      (by (λ b. bodies (cond b [] (offered M.messages)) ≡ cond b [] (offered (bodies M.messages))) (won_by w i) (λ t. refl) (λ t. map-offered body M.messages))
      (plain-consumed w (suc i) Ms)

module _ {A : Type 0} (R : Reads A) where
  abbrev N : Reads (Numbered A)
  N = numbered_reads R

  -- ---- register

  plain-order : (ms : List (Numbered A)) (m : Numbered A) → is_in_order N ms m ≡ is_in_order R (bodies ms) m.body
  plain-order [] m = refl
  plain-order (x ∷ xs) m = ap (λ (a : A). in_step (sequence R a) (sequence R m.body)) (map-newest body x xs)

  plain-refusal : (S : Site) (k : ℕ) (m : Numbered A) (P : Port (Numbered A)) → refusal N S k m P ≡ refusal R S k m.body (plain_port P)
  unfolding refusal
  plain-refusal S k m P =
      let src = sender R m.body in
      let q : is_in_order N (list_of src P.masters) m ≡ is_in_order R (list_of src (map plain_master P.masters)) m.body =
      plain-order (list_of src P.masters) m ∙ ap (λ (l : List A). is_in_order R l m.body) (plain-list_of src P.masters) in
      rw (q, plain_known src P.masters, length-map P.masters plain_master)

  plain-register : (S : Site) (k : ℕ) (m : Numbered A) (P : Port (Numbered A))
      → plain_turn (register_port N S k m P) ≡ register_port R S k m.body (plain_port P)
  unfolding plain_turn register_port
  plain-register S k m P =
      let src = sender R m.body in
      let n = refusal R S k m.body (plain_port P) in
      rw (plain-refusal S k m P)
      (by (λ b. plain_turn (cond b (taking N m P) (unchanged n P)) ≡ cond b (taking R m.body (plain_port P)) (unchanged n (plain_port P))) (eqb n 0)
      (λ t. turn-eq (holding-eq P (admit src (N.aged m 0) P.masters) (admit src (R.aged m.body 0) (map plain_master P.masters)) (plain-admit src (N.aged m 0) P.masters)) refl refl refl
      (map-put_out body (list_of src P.masters) ∙ ap put_out (plain-list_of src P.masters)) refl refl)
      (λ t. refl))

  -- ---- age

  plain-older : (step : ℕ) (ms : List (Numbered A)) → bodies (map (older N step) ms) ≡ map (older R step) (bodies ms)
  plain-older step [] = refl
  plain-older step (m ∷ ms) = ap (λ (l : List A). older R step m.body ∷ l) (plain-older step ms)

  plain-remaining : (step limit : ℕ) (ms : List (Numbered A)) → bodies (remaining N step limit ms) ≡ remaining R step limit (bodies ms)
  unfolding remaining
  plain-remaining step limit ms =
      map-sift body (young N limit) (young R limit) (λ a. refl) (map (older N step) ms) ∙ ap (sift (young R limit)) (plain-older step ms)

  plain-leaving : (step limit : ℕ) (ms : List (Numbered A)) → bodies (leaving N step limit ms) ≡ leaving R step limit (bodies ms)
  unfolding leaving
  plain-leaving step limit ms =
      map-sift body (λ m. not (young N limit m)) (λ m. not (young R limit m)) (λ a. refl) (map (older N step) ms) ∙ ap (sift (λ m. not (young R limit m))) (plain-older step ms)

  plain-aged : (step limit : ℕ) (Ms : List (Master (Numbered A))) → map plain_master (map (age_master N step limit) Ms) ≡ map (age_master R step limit) (map plain_master Ms)
  plain-aged step limit [] = refl
  plain-aged step limit (M ∷ Ms) = ap₂ ◌∷◌ (ap (with (plain_master M)) (plain-remaining step limit M.messages)) (plain-aged step limit Ms)

  plain-aged_out : (step limit : ℕ) (Ms : List (Master (Numbered A)))
      → bodies (joined (map (λ M. leaving N step limit M.messages) Ms)) ≡ joined (map (λ M. leaving R step limit M.messages) (map plain_master Ms))
  plain-aged_out step limit [] = refl
  plain-aged_out step limit (M ∷ Ms) =
      map-append body (leaving N step limit M.messages) (joined (map (λ M. leaving N step limit M.messages) Ms))
      ∙ ap₂ ◌++◌ (plain-leaving step limit M.messages) (plain-aged_out step limit Ms)

  plain-age : (step : ℕ) (P : Port (Numbered A)) → plain_turn (age_port N step P) ≡ age_port R step (plain_port P)
  unfolding plain_turn age_port
  plain-age step P =
      let limit = age_limit P.interval in
      let aged = map (age_master N step limit) P.masters in
      turn-eq
      (holding-eq P (sift has_messages aged) (sift has_messages (map (age_master R step limit) (map plain_master P.masters)))
      (map-sift plain_master has_messages has_messages (λ M. ap (leb 1) (length-map M.messages body)) aged ∙ ap (sift has_messages) (plain-aged step limit P.masters)))
      refl refl refl refl (plain-aged_out step limit P.masters) refl

  -- ---- decide

  plain-offer : (r : PortIdentity) (i : ℕ) (M : Master (Numbered A)) → offer_of N r i M ≡ offer_of R r i (plain_master M)
  plain-offer r i M = pick M.messages
    where
      offer : A → Offer
      offer m = record { place = i; best = best_of R r m }

      pick : (ms : List (Numbered A)) → map (λ (m : Numbered A). offer m.body) (offered ms) ≡ map offer (offered (bodies ms))
      pick [] = refl
      pick (x ∷ []) = refl
      pick (x ∷ y ∷ ys) = ap (λ (a : A). offer a ∷ []) (map-newest body y ys)

  plain-offers : (r : PortIdentity) (i : ℕ) (Ms : List (Master (Numbered A))) → offers_from N r i Ms ≡ offers_from R r i (map plain_master Ms)
  plain-offers r i [] = refl
  plain-offers r i (M ∷ Ms) = ap₂ ◌++◌ (plain-offers r (suc i) Ms) (plain-offer r i M)

  plain-chosen : (r : PortIdentity) (Ms : List (Master (Numbered A))) → chosen N r Ms ≡ chosen R r (map plain_master Ms)
  unfolding chosen
  plain-chosen r Ms = ap (winner shown) (plain-offers r 0 Ms)

  plain-decide : (S : Site) (k : ℕ) (P : Port (Numbered A)) → plain_turn (decide_port N S k P) ≡ decide_port R S k (plain_port P)
  unfolding plain_turn decide_port
  plain-decide S k P =
      let w = chosen R (receiver S k) (map plain_master P.masters) in
      rw (plain-chosen (receiver S k) P.masters)
      (turn-eq (holding-eq P (settled_from w 0 P.masters) (settled_from w 0 (map plain_master P.masters)) (plain-settled w 0 P.masters)) refl refl refl refl refl (plain-consumed w 0 P.masters))

  -- every turn
  pub turn-plain : (S : Site) (k n : ℕ) (c : PortCall A) (P : Port (Numbered A)) → plain_turn (turn N S k (stamp n c) P) ≡ turn R S k c (plain_port P)
  unfolding plain_turn
  turn-plain S k n idle P = refl
  turn-plain S k n (hear (bad x)) P = refl
  turn-plain S k n (hear (announce m)) P = plain-register S k (record { serial = n; body = m }) P
  turn-plain S k n (pass step) P = plain-age step P
  turn-plain S k n judge P = plain-decide S k P
