-- When the words of a store are a sound book, level by level, and what soundness gives a caller.
-- Assumes nothing.
use Rattle.std.specs.Prelude.{ℕ, ◌^◌, ◌<◌, Bool, true, false, not, ◌&&◌, cond, List, ◌≡◌, refl, ltb, leb, eqb, length, get_or}
use Rattle.std.proofs.Common.{ap, ◌∙◌, leb-true, ltb-true, ltb-false, arith}
use Rattle.std.proofs.lemmas.Bool.{eqb-false, not-true}
use Rattle.wire.specs.Below.{both}
use Rattle.header.specs.declared.PortIdentity.{PortIdentity}
use Rattle.same.specs.Same.{same_port, same-port-refl}
use Rattle.slot.specs.Blocks.{block}
use Rattle.slot.specs.Slot.{decode-source}
use Rattle.history.specs.Rules.{ports_max, masters_max, messages_max, listed_max, steps_limit, age_limit}
use Rattle.history.specs.Port.{sender, steps}
use Rattle.history.specs.Sound.{holdable}
use Rattle.store.specs.Below.{all, all-at, and₄}
use Rattle.store.specs.Layout.{master_words, port_words, head_words, store_words, master_at, port_at, slot_at, identity_of, message_at, reads}
use Rattle.store.specs.Search.{place, accepts_head}
use Rattle.book.specs.Rules.{rule_at, master_sound, placed, port_sound, port_test, sound_words, store_refusal, Passed, Held, HeldPort, HeldMaster}

-- the sender of a message is its master, so two tests are left
sender-same : (m : List ℕ) (k : ℕ) → same_port (sender reads (message_at m k)) (identity_of m) ≡ true
unfolding message_at
sender-same m k =
    ap (λ (x : PortIdentity). same_port x (identity_of m)) (decode-source (identity_of m) (block m (slot_at (get_or m 2 0) k) 8))
    ∙ same-port-refl (identity_of m)

pub holdable-word : (limit : ℕ) (m : List ℕ) (k : ℕ)
    → holdable reads (identity_of m) limit (message_at m k) ≡ (ltb (steps reads (message_at m k)) steps_limit && ltb (message_at m k).age limit)
unfolding holdable
holdable-word limit m k =
    ap (λ (b : Bool). b && ltb (steps reads (message_at m k)) steps_limit && ltb (message_at m k).age limit) (sender-same m k)

pub checked : (s : List ℕ) → store_refusal s ≡ 0 → Passed s
unfolding store_refusal
checked s e = by (ltb (length s) store_words) (sound_words s) refl refl e
  where
    by : (b c : Bool) → ltb (length s) store_words ≡ b → sound_words s ≡ c → ◌≡◌ {A = ℕ} (cond b 1 (cond c 0 16)) 0 → Passed s
    by true c p q e = absurd (omega arith)
    by false true p q e = record { room = ltb-false (length s) store_words p; sound = q }
    by false false p q e = absurd (omega arith)

pub held : (s : List ℕ) → sound_words s ≡ true → Held s
unfolding sound_words
held s sound =
    let parts = and₄ (leb 1 (get_or s 0 0)) (leb (get_or s 0 0) ports_max) (leb (get_or s 3 0) listed_max) (all (get_or s 0 0) (port_test s)) sound in
    record {
      ports = leb-true (get_or s 0 0) ports_max parts.1;
      listed = leb-true (get_or s 3 0) listed_max parts.2;
      port = λ q h. all-at (port_test s) (get_or s 0 0) q h parts.3;
    }

pub held-port : (h p : List ℕ) → port_sound h p ≡ true → HeldPort h p
unfolding port_sound
held-port h p sound =
    let parts = and₄ (leb 1 (get_or p 0 0)) (ltb (get_or p 0 0) (2 ^ 60)) (leb (get_or p 1 0) masters_max) (all (get_or p 1 0) (placed h p)) sound in
    record {
      interval = ltb-true (get_or p 0 0) (2 ^ 60) parts.1;
      masters = leb-true (get_or p 1 0) masters_max parts.2;
      master = λ i l. all-at (placed h p) (get_or p 1 0) i l parts.3;
    }

pub held-master : (h p : List ℕ) (i : ℕ) → placed h p i ≡ true → HeldMaster (age_limit (get_or p 0 0)) (block p (master_at i) master_words)
unfolding placed master_sound
held-master h p i sound =
    let m : List ℕ = block p (master_at i) master_words in
    let limit : ℕ = age_limit (get_or p 0 0) in
    let s = both (eqb (place p (identity_of m)) i) (master_sound h limit m) sound in
    let t = both (leb 1 (get_or m 3 0) && leb (get_or m 3 0) messages_max && not (eqb (get_or m 0 0) (get_or h 1 0)) && accepts_head h (get_or m 0 0)) (all (get_or m 3 0) (rule_at limit m)) s.1 in
    let u = and₄ (leb 1 (get_or m 3 0)) (leb (get_or m 3 0) messages_max) (not (eqb (get_or m 0 0) (get_or h 1 0))) (accepts_head h (get_or m 0 0)) t.0 in
    record {
      some = leb-true 1 (get_or m 3 0) u.0;
      few = leb-true (get_or m 3 0) messages_max u.1;
      message = λ k l. all-at (rule_at limit m) (get_or m 3 0) k l t.1;
    }

-- its clock is not our own
pub placed-foreign : (h p : List ℕ) (i : ℕ) → placed h p i ≡ true → get_or (block p (master_at i) master_words) 0 0 ≡ get_or h 1 0 → ⊥
unfolding placed master_sound
placed-foreign h p i sound =
    let m : List ℕ = block p (master_at i) master_words in
    let limit : ℕ = age_limit (get_or p 0 0) in
    let s = both (eqb (place p (identity_of m)) i) (master_sound h limit m) sound in
    let t = both (leb 1 (get_or m 3 0) && leb (get_or m 3 0) messages_max && not (eqb (get_or m 0 0) (get_or h 1 0)) && accepts_head h (get_or m 0 0)) (all (get_or m 3 0) (rule_at limit m)) s.1 in
    let u = and₄ (leb 1 (get_or m 3 0)) (leb (get_or m 3 0) messages_max) (not (eqb (get_or m 0 0) (get_or h 1 0))) (accepts_head h (get_or m 0 0)) t.0 in
    eqb-false (get_or m 0 0) (get_or h 1 0) (not-true (eqb (get_or m 0 0) (get_or h 1 0)) u.2)

-- the same of port q and of its master i, in the store
pub port-held : (s : List ℕ) → sound_words s ≡ true → (q : ℕ) → q < get_or s 0 0 → HeldPort (block s 0 head_words) (block s (port_at q) port_words)
port-held s sound q h = held-port (block s 0 head_words) (block s (port_at q) port_words) ((held s sound).port q h)

pub master-held : (s : List ℕ) → sound_words s ≡ true → (q : ℕ) → q < get_or s 0 0 → (i : ℕ) → i < get_or (block s (port_at q) port_words) 1 0
    → HeldMaster (age_limit (get_or (block s (port_at q) port_words) 0 0)) (block (block s (port_at q) port_words) (master_at i) master_words)
master-held s sound q h i l = held-master (block s 0 head_words) (block s (port_at q) port_words) i ((port-held s sound q h).master i l)
