-- A store's words decided are its book after the decision; the Erbests and the tally are those of the ports' turns.
-- Assumes nothing.
use Prim.Native.Nat.{ℕ, zero, suc, ◌+◌, ◌≤◌, ◌<◌}
use Rattle.std.specs.Prelude.{◌≡◌, refl, true, eqb, length, Option}
use Rattle.std.proofs.Math.Path.{sym, ap, ap₂}
use Rattle.std.proofs.Common.{◌∙◌, arith}
use mathlib.Core.List.{List, [], map}
use Rattle.std.proofs.Math.ListN.{get_or}
use Rattle.compare.specs.declared.InternalDefaultDS.{InternalDefaultDS}
use Rattle.choice.specs.declared.BestAnnounceMessage.{BestAnnounceMessage}
use Rattle.slot.specs.Blocks.{block, length-block, get_or-block}
use Rattle.slot.specs.declared.ForeignAnnounceMessage.{ForeignAnnounceMessage}
use Rattle.history.specs.Port.{Site, Port, Turn, receiver, won_by, chosen, decide_port}
use Rattle.history.specs.Book.{decide, total, turns, after}
use Rattle.book.specs.Below.{tab, tab_snoc, tab-ext, map-tab}
use Rattle.book.specs.Layout.{port_words, head_words, store_words, port_at, port_of, site_of, book_of, reads, site-same}
use Rattle.book.specs.Rules.{sound_words}
use Rattle.book.proofs.Rules.{held, port-held}
use Rattle.admission.proofs.StoreView.{turns-tab, total-none}
use Rattle.ageing.specs.StoreView.{total_snoc}
use Rattle.erbest.specs.Place.{winner_place}
use Rattle.erbest.proofs.Chosen.{best_view, won_view}
use Rattle.consumption.proofs.View.{consumed_view, gone_view}
use Rattle.bmca.specs.Decide.{decided_port, gone_port, decided_to, gone_to, decided_store, gone_store, erbest_at}
use Rattle.bmca.proofs.Words.{DecidedTo, decided-ports}

module _ (s : List ℕ) (room : store_words ≤ length s) (sound : sound_words s ≡ true) where
  -- the words of a port, and its turn
  abbrev words : ℕ → List ℕ
  words q = block s (port_at q) port_words

  abbrev turn_of : ℕ → Turn ForeignAnnounceMessage
  turn_of q = decide_port reads (site_of s) (1 + q) (port_of (words q))

  -- the turns of all ports
  pub decide-turns : (own : InternalDefaultDS) (listening : ℕ) → turns reads (decide own listening) (book_of s) ≡ tab (get_or s 0 0) turn_of
  unfolding turns book_of
  decide-turns own listening = turns-tab (site_of s) (decide own listening) (get_or s 0 0) 1 (λ q. port_of (words q))

  -- our clock stands in the head
  own-head : (site_of s).own ≡ get_or (block s 0 head_words) 1 0
  unfolding site_of
  own-head = sym (get_or-block s 0 head_words 1 (omega arith))

  module _ (q : ℕ) (below : q < get_or s 0 0) where
    size : length (words q) ≡ port_words
    size = length-block s (port_at q) port_words (omega (arith, (held s sound).ports))

    won : (i : ℕ) → i < get_or (words q) 1 0 → won_by (chosen reads (receiver (site_of s) (1 + q)) (port_of (words q)).masters) i ≡ eqb (winner_place (words q)) i
    won = won_view (block s 0 head_words) (words q) (receiver (site_of s) (1 + q)) own-head ((held s sound).port q below)

    -- a port's words decided are the port after its turn
    port_view : port_of (decided_port (words q)) ≡ (turn_of q).port
    unfolding decide_port
    port_view = consumed_view (winner_place (words q)) (words q) (chosen reads (receiver (site_of s) (1 + q)) (port_of (words q)).masters) size (port-held s sound q below).masters won

    gone_at_lem : gone_port (words q) ≡ length (turn_of q).consumed
    unfolding decide_port
    gone_at_lem = gone_view (winner_place (words q)) (words q) (chosen reads (receiver (site_of s) (1 + q)) (port_of (words q)).masters) size (port-held s sound q below).masters won

    erbest-at : erbest_at s q ≡ (turn_of q).best
    unfolding site_of
    erbest-at = sym (best_view (block s 0 head_words) (words q) (site_of s) (1 + q) own-head ((held s sound).port q below))

  -- how many messages of the first n ports are consumed
  gone-to : (n : ℕ) → n ≤ get_or s 0 0 → gone_to n s ≡ total (λ T. T.consumed) (tab n turn_of)
  gone-to zero h = refl
  gone-to (suc n) h =
      ap₂ (λ (x y : ℕ). x + y) (gone-to n (omega arith))
      (ap gone_port ((decided-ports s room sound n (omega arith)).later n (omega arith) (omega (arith, (held s sound).ports))) ∙ gone_at_lem n (omega arith))
      ∙ sym (ap (total (λ T. T.consumed)) (tab_snoc n turn_of) ∙ total_snoc (λ T. T.consumed) (tab n turn_of) (turn_of n))

  module _ (own : InternalDefaultDS) (listening : ℕ) where
    -- the words decided hold the book after the call
    pub decided_view : book_of (decided_store s) ≡ after reads (decide own listening) (book_of s)
    unfolding book_of decided_store after
    decided_view =
        let n : ℕ = get_or s 0 0 in
        let t : List ℕ = decided_to n s in
        let a : DecidedTo s n t = decided-ports s room sound n (omega arith) in
        let port : Turn ForeignAnnounceMessage → Port ForeignAnnounceMessage = λ T. T.port in
        let ports : tab (get_or t 0 0) (λ q. port_of (block t (port_at q) port_words)) ≡ map port (turns reads (decide own listening) (book_of s)) =
        ap (λ (k : ℕ). tab k (λ q. port_of (block t (port_at q) port_words))) (a.word 0 (omega arith))
        ∙ tab-ext n (λ q. port_of (block t (port_at q) port_words)) (λ q. port (turn_of q)) (λ q h. ap port_of (a.done q h) ∙ port_view q h)
        ∙ sym (ap (map port) (decide-turns own listening) ∙ map-tab port n turn_of) in
        ap₂ (λ (S : Site) (Ps : List (Port ForeignAnnounceMessage)). record { site = S; ports = Ps }) (site-same s t (held s sound).listed a.word) ports

    -- the Erbests are those of the turns
    pub erbests_view : tab (get_or s 0 0) (erbest_at s) ≡ map (λ (T : Turn ForeignAnnounceMessage). T.best) (turns reads (decide own listening) (book_of s))
    erbests_view =
        let best : Turn ForeignAnnounceMessage → Option BestAnnounceMessage = λ T. T.best in
        tab-ext (get_or s 0 0) (erbest_at s) (λ q. best (turn_of q)) (λ q h. erbest-at q h)
        ∙ sym (ap (map best) (decide-turns own listening) ∙ map-tab best (get_or s 0 0) turn_of)

    -- the tally is how many messages the turns name consumed
    pub gone_view_store : gone_store s ≡ total (λ T. T.consumed) (turns reads (decide own listening) (book_of s))
    unfolding gone_store
    gone_view_store = gone-to (get_or s 0 0) (omega arith) ∙ sym (ap (total (λ T. T.consumed)) (decide-turns own listening))

    -- and nothing is evicted or ages out
    pub others-none : (f : Turn ForeignAnnounceMessage → List ForeignAnnounceMessage) → ((q : ℕ) → f (turn_of q) ≡ []) → total f (turns reads (decide own listening) (book_of s)) ≡ 0
    others-none f e = ap (total f) (decide-turns own listening) ∙ total-none f (get_or s 0 0) turn_of e
