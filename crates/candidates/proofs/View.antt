-- The candidates of a book on the words of its store.
-- Assumes nothing.
use Rattle.std.specs.Prelude.{ℕ, zero, suc, ◌+◌, ◌≡◌, refl, List, [], ◌∷◌, map, get_or}
use Rattle.std.proofs.Common.{sym, ap, ap₂, ◌∙◌, zero-add, add-suc, suc-add}
use Rattle.header.specs.declared.PortIdentity.{PortIdentity}
use Rattle.choice.specs.declared.BestAnnounceMessage.{BestAnnounceMessage}
use Rattle.slot.specs.declared.ForeignAnnounceMessage.{ForeignAnnounceMessage}
use Rattle.history.specs.Port.{Port, Site, Offer, receiver, candidates}
use Rattle.histories.specs.History.{candidates_from, candidates_of}
use Rattle.histories.proofs.Decision.{offers-candidates}
use Rattle.book.specs.Below.{tab, tab-ext}
use Rattle.book.specs.Layout.{port_of, site_of, book_of, reads}
use Rattle.offers.specs.Offers.{best_at, offer_at, offering}
use Rattle.offers.proofs.View.{offers_view}
use Rattle.candidates.specs.View.{port_in, offers_in}

-- ---- one port

best-offers : (r : PortIdentity) (p is : List ℕ) → map (λ (o : Offer). o.best) (map (offer_at r p) is) ≡ map (best_at r p) is
best-offers r p [] = refl
best-offers r p (i ∷ is) = ap (λ (bs : List BestAnnounceMessage). best_at r p i ∷ bs) (best-offers r p is)

-- the candidates of a port are the newest messages of the masters that offer one, the last master first
pub port-candidates : (r : PortIdentity) (p : List ℕ) → candidates reads r (port_of p).masters ≡ map (best_at r p) (offering p)
port-candidates r p =
    sym (offers-candidates reads r 0 (port_of p).masters) ∙ ap (map (λ (o : Offer). o.best)) (offers_view r p) ∙ best-offers r p (offering p)

candidates-tab : (S : Site) (k n : ℕ) (f : ℕ → Port ForeignAnnounceMessage)
    → candidates_from reads S k (tab n f) ≡ tab n (λ q. candidates reads (receiver S (q + k)) (f q).masters)
candidates-tab S k zero f = refl
candidates-tab S k (suc n) f =
    ap₂ ◌∷◌ (ap (λ (j : ℕ). candidates reads (receiver S j) (f 0).masters) (sym (zero-add k)))
    (candidates-tab S (suc k) n (λ q. f (suc q))
    ∙ tab-ext n (λ q. candidates reads (receiver S (q + suc k)) (f (suc q)).masters) (λ q. candidates reads (receiver S (suc q + k)) (f (suc q)).masters)
    (λ q l. ap (λ (j : ℕ). candidates reads (receiver S j) (f (suc q)).masters) (add-suc q k ∙ sym (suc-add q k))))

-- the candidates of a book are those of its ports, port 1 first
pub candidates_view : (s : List ℕ) → candidates_of reads (book_of s) ≡ tab (get_or s 0 0) (offers_in s)
unfolding book_of
candidates_view s =
    candidates-tab (site_of s) 1 (get_or s 0 0) (λ q. port_of (port_in s q))
    ∙ tab-ext (get_or s 0 0) (λ q. candidates reads (receiver (site_of s) (q + 1)) (port_of (port_in s q)).masters) (offers_in s)
    (λ q l. port-candidates (receiver (site_of s) (q + 1)) (port_in s q))
