-- The laws over any history of the real calls on a lent store: soundness, conservation, independence of the ports.
-- Assumes nothing.
use Rattle.std.specs.Prelude.{ℕ, ◌+◌, Bool, cond, List, [], ◌∷◌, ◌++◌, map, ltb, length}
use Rattle.std.proofs.Math.Path.{◌≡◌, refl}
use Rattle.std.proofs.Common.{sym, ap, subst, ◌∙◌, arith}
use Rattle.std.proofs.Math.Bool.{true, false}
use Rattle.std.proofs.Math.Option.{some}
use Rattle.std.proofs.Math.ListN.{get_elem?}
use Rattle.choice.specs.Choice.{All}
use Rattle.slot.specs.Blocks.{block}
use Rattle.slot.specs.declared.ForeignAnnounceMessage.{ForeignAnnounceMessage}
use Rattle.history.specs.Port.{Site, PortCall, Port}
use Rattle.history.specs.Book.{Book, Call, fresh_book, fresh_port}
use Rattle.history.specs.Sound.{startable}
use Rattle.histories.specs.History.{Event, start, call, Since, since, run, book_turns, mine, reports, port_turns, port_run}
use Rattle.histories.proofs.Independence.{run_alone, reports-alone, fresh-alone}
use Rattle.histories.proofs.Moments.{since-taken, since-run}
use Rattle.histories.specs.Ledger.{ledgers_total, grand_total}
use Rattle.histories.proofs.Conserved.{Accounted, book_ledger}
use Rattle.histories.proofs.Totals.{book-tallied}
use Rattle.histories.specs.Balance.{accepted_by, held_in}
use Rattle.histories.proofs.Balance.{all-accepted, history_balance}
use Rattle.book.specs.Layout.{port_words, port_at, port_of, store_words, book_of, reads}
use Rattle.book.specs.Rules.{store_refusal}
use Rattle.fresh.specs.Fresh.{site_with}
use Rattle.foreign_master.specs.Calls.{fresh_answer}
use Rattle.stored.specs.Calls.{StoreCall, fresh_start, Wired, exit_of, number_of, run_store, tallied, accepted_in, calls_of, mine_of, reports_of, Stretch}
use Rattle.stored.proofs.Views.{run_view, begins}
use Rattle.stored.proofs.Alone.{port-words, told, reports-turns}
use Rattle.stored.proofs.Stretch.{mine-calls, run-calls, accepted-calls, evicted-calls, aged-calls, consumed-calls}

-- A history in two parts: what follows a call goes on from the words that it left.
pub run-append : (s : List ℕ) (cs ds : List StoreCall) → run_store s (cs ++ ds) ≡ run_store (run_store s cs) ds
run-append s [] ds = refl
run-append s (c ∷ cs) ds = run-append (exit_of c s) cs ds

-- ---- soundness

-- After a fresh start that is taken, on any words whatever, the store is sound at every moment of every history: no call is refused for its words.
pub always-sound : (own : ℕ) (any : Bool) (listed intervals s : List ℕ) → number_of (fresh_start own any listed intervals) s ≡ 0 → (cs : List StoreCall) → All Wired cs
    → store_refusal (run_store s (fresh_start own any listed intervals ∷ cs)) ≡ 0
always-sound own any listed intervals s taken cs wired =
    (run_view (exit_of (fresh_start own any listed intervals) s) (begins s own any listed intervals taken).sound cs wired).sound

-- ---- from a fresh start to the next one

module _ (own : ℕ) (any : Bool) (listed intervals s : List ℕ) (cs : List StoreCall) (x : Stretch own any listed intervals s cs) where
  -- the words just after the fresh start
  abbrev fresh : List ℕ
  fresh = exit_of (fresh_start own any listed intervals) s

  abbrev S : Site
  S = site_with own any listed

  abbrev ds : List (Call ForeignAnnounceMessage)
  ds = calls_of fresh cs

  -- the fresh start and the calls since, as the book has them
  abbrev pub since_then : Since ForeignAnnounceMessage
  since_then = record { site = S; intervals = intervals; calls = ds }

  fit : startable listed intervals ≡ true
  unfolding fresh_answer
  fit = go (ltb (length s) store_words) (startable listed intervals) refl x.taken
    where
      go : (a b : Bool) → startable listed intervals ≡ b → ◌≡◌ {A = ℕ} (cond a 1 (cond b 0 14)) 0 → startable listed intervals ≡ true
      go true b q z = absurd (omega (arith, z))
      go false true q z = q
      go false false q z = absurd (omega (arith, z))

  sound : store_refusal fresh ≡ 0
  sound = (begins s own any listed intervals x.taken).sound

  book : book_of fresh ≡ fresh_book S intervals
  book = (begins s own any listed intervals x.taken).book

  -- the book at the end
  book-run : book_of (run_store fresh cs) ≡ run reads (fresh_book S intervals) ds
  book-run = run-calls fresh sound cs x.wired x.lasting ∙ ap (λ (B : Book ForeignAnnounceMessage). run reads B ds) book

  -- what the calls answer, by the turns of the ports
  record Reported : Type 0 where
    accepted : accepted_in fresh cs ≡ accepted_by reads (fresh_book S intervals) ds
    evicted : tallied (λ t. t.evicted) fresh cs ≡ grand_total (λ T. T.evicted) (book_turns reads (fresh_book S intervals) ds)
    aged_out : tallied (λ t. t.aged_out) fresh cs ≡ grand_total (λ T. T.aged_out) (book_turns reads (fresh_book S intervals) ds)
    consumed : tallied (λ t. t.consumed) fresh cs ≡ grand_total (λ T. T.consumed) (book_turns reads (fresh_book S intervals) ds)

  reported : Reported
  reported =
      record {
        accepted = accepted-calls fresh sound cs x.wired x.lasting ∙ ap (λ (B : Book ForeignAnnounceMessage). accepted_by reads B ds) book;
        evicted = evicted-calls fresh sound cs x.wired x.lasting ∙ ap (λ (B : Book ForeignAnnounceMessage). grand_total (λ T. T.evicted) (book_turns reads B ds)) book;
        aged_out = aged-calls fresh sound cs x.wired x.lasting ∙ ap (λ (B : Book ForeignAnnounceMessage). grand_total (λ T. T.aged_out) (book_turns reads B ds)) book;
        consumed = consumed-calls fresh sound cs x.wired x.lasting ∙ ap (λ (B : Book ForeignAnnounceMessage). grand_total (λ T. T.consumed) (book_turns reads B ds)) book;
      }

  -- ---- conservation

  -- As many registrations were accepted as messages are held, and were reported evicted, aged out and consumed.
  pub conservation : accepted_in fresh cs
      ≡ held_in (book_of (run_store fresh cs)).ports + tallied (λ t. t.evicted) fresh cs + tallied (λ t. t.aged_out) fresh cs + tallied (λ t. t.consumed) fresh cs
  conservation =
      let B : Book ForeignAnnounceMessage = fresh_book S intervals in
      let es : List (Event ForeignAnnounceMessage) = start S intervals ∷ map call ds in
      let e : since es ≡ some since_then = since-taken [] S intervals ds fit in
      omega (
        arith,
        history_balance reads B es since_then e,
        reported.accepted,
        reported.evicted,
        reported.aged_out,
        reported.consumed,
        ap (λ (D : Book ForeignAnnounceMessage). held_in D.ports) ((since-run reads B es since_then e).book ∙ sym book-run),
      )

  -- Each accepted registration of a port, by its serial number, is held or gone for exactly one cause: the ledger of the port is of the
  -- very port that the words hold, and every number given is in one place.
  pub ledgers : (i interval : ℕ) → get_elem? intervals i ≡ some interval → Accounted reads (book_of (run_store fresh cs)) since_then i interval
  ledgers i interval e = subst (λ B. Accounted reads B since_then i interval) (sym book-run) (book_ledger reads since_then i interval e)

  -- what the calls reported, and what the ledgers of all ports name
  pub record LedgersTallied : Type 0 where
    pub accepted : accepted_in fresh cs ≡ ledgers_total reads (λ L. L.accepted) S 1 intervals ds
    pub evicted : tallied (λ t. t.evicted) fresh cs ≡ ledgers_total reads (λ L. length L.evicted) S 1 intervals ds
    pub aged_out : tallied (λ t. t.aged_out) fresh cs ≡ ledgers_total reads (λ L. length L.aged_out) S 1 intervals ds
    pub consumed : tallied (λ t. t.consumed) fresh cs ≡ ledgers_total reads (λ L. length L.consumed) S 1 intervals ds

  -- The tallies that the calls report count exactly the messages that the ledgers name gone.
  pub ledgers-tallied : LedgersTallied
  ledgers-tallied =
      let b = book-tallied reads since_then in
      record {
        accepted = reported.accepted ∙ sym (all-accepted reads (fresh_book S intervals) ds) ∙ b.accepted;
        evicted = reported.evicted ∙ b.evicted;
        aged_out = reported.aged_out ∙ b.aged_out;
        consumed = reported.consumed ∙ b.consumed;
      }

  -- ---- a port alone

  module _ (i interval : ℕ) (here : get_elem? intervals i ≡ some interval) where
    abbrev P : Port ForeignAnnounceMessage
    P = fresh_port interval

    there : get_elem? (fresh_book {A = ForeignAnnounceMessage} S intervals).ports i ≡ some P
    there = fresh-alone reads i S intervals interval here

    -- Port 1 + i of the store is that port alone, by our own clock, the acceptable masters, its number, its interval and the calls that
    -- are something to it: so are its lists,
    pub port-is : port_of (block (run_store fresh cs) (port_at i) port_words) ≡ port_run reads S (1 + i) P (mine_of (1 + i) cs)
    port-is =
        port-words (run_store fresh cs) i (port_run reads S (1 + i) P (mine (1 + i) ds))
        (ap (λ (B : Book ForeignAnnounceMessage). get_elem? B.ports i) book-run ∙ run_alone reads i (fresh_book S intervals) P ds there)
        ∙ ap (port_run reads S (1 + i) P) (mine-calls (1 + i) fresh cs)

    -- and what the calls report of it.
    pub reports-are : reports_of i fresh cs ≡ map told (map some (port_turns reads S (1 + i) P (mine_of (1 + i) cs)))
    reports-are =
        reports-turns fresh sound i P (ap (λ (B : Book ForeignAnnounceMessage). get_elem? B.ports i) book ∙ there) cs x.wired x.lasting
        ∙ ap (λ (B : Book ForeignAnnounceMessage). map told (reports reads i B ds)) book
        ∙ ap (map told)
        (reports-alone reads i (fresh_book S intervals) P ds there
        ∙ ap (λ (l : List (PortCall ForeignAnnounceMessage)). map some (port_turns reads S (1 + i) P l)) (mine-calls (1 + i) fresh cs))

-- ---- independence

-- Two stores, whatever lay in them, that have had a fresh start with the same own clock, the same acceptable masters and the same
-- interval of port 1 + i, and then the same calls that are something to it, whatever the other ports are and hear: they hold the same
-- lists of that port, and all registration answers and Erbests of it were the same.
pub independence : (i own : ℕ) (any : Bool) (listed ns ms s t : List ℕ) (n : ℕ) (cs ds : List StoreCall)
    → Stretch own any listed ns s cs → Stretch own any listed ms t ds → get_elem? ns i ≡ some n → get_elem? ms i ≡ some n → mine_of (1 + i) cs ≡ mine_of (1 + i) ds
    → let a = exit_of (fresh_start own any listed ns) s in
    let b = exit_of (fresh_start own any listed ms) t in
    (port_of (block (run_store a cs) (port_at i) port_words) ≡ port_of (block (run_store b ds) (port_at i) port_words))
    × (reports_of i a cs ≡ reports_of i b ds)
independence i own any listed ns ms s t n cs ds x y p q h =
    let S = site_with own any listed in (
      port-is own any listed ns s cs x i n p ∙ ap (port_run reads S (1 + i) (fresh_port n)) h ∙ sym (port-is own any listed ms t ds y i n q),
      reports-are own any listed ns s cs x i n p
          ∙ ap (λ (l : List (PortCall ForeignAnnounceMessage)). map told (map some (port_turns reads S (1 + i) (fresh_port n) l))) h
          ∙ sym (reports-are own any listed ms t ds y i n q),
    )
