-- A store's words aged are its book after the call, and the tally is how many messages aged out.
-- Assumes nothing.
use Rattle.std.specs.Prelude.{◌≡◌, ℕ, zero, suc, ◌+◌, ◌^◌, ◌<◌, ◌≤◌, Bool, true, cond, List, [], ◌∷◌, ◌++◌, map, length, slice_index, slice_index_or, refl}
use Rattle.std.proofs.Math.Path.{sym, ap, ap₂}
use Rattle.std.proofs.Common.{◌∙◌, arith, lt-ltb}
use Rattle.slot.specs.Blocks.{block, length-block}
use Rattle.slot.specs.declared.ForeignAnnounceMessage.{ForeignAnnounceMessage}
use Rattle.history.specs.Rules.{age_limit, step_max}
use Rattle.history.specs.Port.{Port, Site, Turn, idle, pass, age_port, turn}
use Rattle.history.specs.Book.{age, total, turns_from, turns, after}
use Rattle.book.specs.Below.{tab, tab_snoc, tab-ext, map-tab}
use Rattle.book.specs.Each.{Treated, treated}
use Rattle.book.specs.Layout.{port_words, head_words, store_words, port_at, port_of, site_of, book_of, reads, site-same}
use Rattle.book.specs.Rules.{sound_words}
use Rattle.book.proofs.Rules.{held, port-held, master-held}
use Rattle.ageing.specs.Age.{RingsFit, aged_port, gone_port, aged_ports_to, gone_ports_to, aged_store, aged_out}
use Rattle.ageing.specs.PortView.{length-aged_port, port-aged, port-gone}

-- ---- the words

-- what holds of t after the first n ports of s have been aged
abbrev pub Aged : ℕ → List ℕ → ℕ → List ℕ → Type 0
Aged step s n t = Treated head_words port_words (aged_port step) (slice_index s 0) s n t

-- what soundness says of a port's rings
pub rings_fit : (s : List ℕ) → sound_words s ≡ true → (q : ℕ) → q < slice_index s 0 → RingsFit (block s (port_at q) port_words)
rings_fit s sound q h i l = (master-held s sound q h i l).few

module _ (step : ℕ) (s : List ℕ) (room : store_words ≤ length s) (sound : sound_words s ≡ true) where
  -- a port keeps its length
  keeps : (q : ℕ) → q < slice_index s 0 → length (aged_port step (block s (port_at q) port_words)) ≡ port_words
  keeps q h =
      length-aged_port step (block s (port_at q) port_words) (length-block s (port_at q) port_words (omega (arith, (held s sound).ports))) (port-held s sound q h).masters

  -- after any number of ports
  pub aged-ports : (n : ℕ) → n ≤ slice_index s 0 → Aged step s n (aged_ports_to step n s)
  aged-ports = treated head_words port_words (aged_port step) (slice_index s 0) s (omega (arith, (held s sound).ports)) keeps

  -- the store keeps its length
  pub aged-length : length (aged_store step s) ≡ length s
  unfolding aged_store
  aged-length = (aged-ports (slice_index s 0) (omega arith)).size

-- ---- the turns of the ports

-- one turn more in a tally
pub total_snoc : {A : Type 0} (f : Turn A → List A) (Ts : List (Turn A)) (T : Turn A) → total f (Ts ++ (T ∷ [])) ≡ total f Ts + length (f T)
total_snoc f [] T = omega arith
total_snoc f (U ∷ Ts) T = omega (arith, total_snoc f Ts T)

-- a step that is taken ages every port
age-turns : (step : ℕ) → step < step_max → (S : Site) (k n : ℕ) (g : ℕ → Port ForeignAnnounceMessage)
    → turns_from reads S k (age step) (tab n g) ≡ tab n (λ q. age_port reads step (g q))
age-turns step h S k zero g = refl
age-turns step h S k (suc n) g =
    ap₂ (λ (T : Turn ForeignAnnounceMessage) (Ts : List (Turn ForeignAnnounceMessage)). T ∷ Ts)
    (ap (λ (b : Bool). turn reads S k (cond b (pass step) idle) (g zero)) (lt-ltb step step_max h))
    (age-turns step h S (suc k) n (λ q. g (suc q)))

-- ---- the store aged

module _ (step : ℕ) (s : List ℕ) (room : store_words ≤ length s) (sound : sound_words s ≡ true) (small : step < step_max) where
  -- the words of port q
  abbrev words : ℕ → List ℕ
  words q = block s (port_at q) port_words

  -- its turn
  abbrev turn_of : ℕ → Turn ForeignAnnounceMessage
  turn_of q = age_port reads step (port_of (words q))

  -- its words are all there
  size : (q : ℕ) → q < slice_index s 0 → length (words q) ≡ port_words
  size q h = length-block s (port_at q) port_words (omega (arith, (held s sound).ports))

  -- its ages do not overflow
  fits : (q : ℕ) → q < slice_index s 0 → age_limit (slice_index (words q) 0) + step ≤ 2 ^ 64
  fits q h = omega (arith, (port-held s sound q h).interval)

  -- the turns of all ports
  all-turns : turns reads (age step) (book_of s) ≡ tab (slice_index s 0) turn_of
  unfolding turns book_of
  all-turns = age-turns step small (site_of s) 1 (slice_index s 0) (λ q. port_of (words q))

  -- how many messages of the first n ports go
  gone-to : (n : ℕ) → n ≤ slice_index s 0 → gone_ports_to step n s ≡ total (λ T. T.aged_out) (tab n turn_of)
  gone-to zero h = refl
  gone-to (suc n) h =
      ap₂ (λ (x y : ℕ). x + y) (gone-to n (omega arith))
      (ap (gone_port step) ((aged-ports step s room sound n (omega arith)).later n (omega arith) (omega (arith, (held s sound).ports)))
      ∙ port-gone step (words n) (size n (omega arith)) (port-held s sound n (omega arith)).masters (master-held s sound n (omega arith)) (fits n (omega arith)))
      ∙ sym (ap (total (λ T. T.aged_out)) (tab_snoc n turn_of) ∙ total_snoc (λ T. T.aged_out) (tab n turn_of) (turn_of n))

  -- the words aged hold the book after the call
  pub aged_view : book_of (aged_store step s) ≡ after reads (age step) (book_of s)
  unfolding book_of aged_store after
  aged_view =
      let n : ℕ = slice_index_or s 0 0 in
      let t : List ℕ = aged_ports_to step n s in
      let a : Aged step s n t = aged-ports step s room sound n (omega arith) in
      let port : Turn ForeignAnnounceMessage → Port ForeignAnnounceMessage = λ T. T.port in
      let ports : tab (slice_index t 0) (λ q. port_of (block t (port_at q) port_words)) ≡ map port (turns reads (age step) (book_of s)) =
      ap (λ (k : ℕ). tab k (λ q. port_of (block t (port_at q) port_words))) (a.word 0 (omega arith))
      ∙ tab-ext n (λ q. port_of (block t (port_at q) port_words)) (λ q. port (turn_of q))
      (λ q h. ap port_of (a.done q h) ∙ port-aged step (words q) (size q h) (port-held s sound q h).masters (master-held s sound q h) (fits q h))
      ∙ sym (ap (map port) all-turns ∙ map-tab port n turn_of) in
      ap₂ (λ (S : Site) (Ps : List (Port ForeignAnnounceMessage)). record { site = S; ports = Ps }) (site-same s t (held s sound).listed a.word) ports

  -- and the tally is how many messages aged out
  pub gone_view : aged_out step s ≡ total (λ T. T.aged_out) (turns reads (age step) (book_of s))
  unfolding aged_out
  gone_view = gone-to (slice_index s 0) (omega arith) ∙ sym (ap (total (λ T. T.aged_out)) all-turns)
