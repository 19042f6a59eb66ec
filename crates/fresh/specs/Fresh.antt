-- The words of a book that holds nothing yet.
-- Assumes nothing.
use Rattle.std.specs.Prelude.{ℕ, ◌-◌, ◌/◌, ◌%◌, Bool, cond, List, ltb, eqb, length, get_or}
use Rattle.wire.specs.Be.{put}
use Rattle.history.specs.Port.{Site}
use Rattle.book.specs.Below.{tab}
use Rattle.book.specs.Layout.{port_words, head_words, store_words}

-- our own clock, whether any master is accepted, and those listed
abbrev pub site_with : ℕ → Bool → List ℕ → Site
site_with own any listed = record { own = own; any = any; listed = listed }

-- 0 where any master is accepted, 1 where those listed are
abbrev pub rule_word : Bool → ℕ
rule_word any = cond any 0 1

-- word w of the head: count of ports, own clock, rule, length of the list, list; zero behind it
unfoldable pub head_word : Site → ℕ → ℕ → ℕ
head_word S ports w =
    cond (eqb w 0) ports
    (cond (eqb w 1) S.own
    (cond (eqb w 2) (rule_word S.any)
    (cond (eqb w 3) (length S.listed) (get_or S.listed (w - 4) 0))))

-- word w of the book: the head, then each port with its interval and zeros
unfoldable pub fresh_word : Site → List ℕ → ℕ → ℕ
fresh_word S ns w =
    cond (ltb w head_words) (head_word S (length ns) w)
    (cond (eqb ((w - head_words) % port_words) 0) (get_or ns ((w - head_words) / port_words) 0) 0)

-- the store afterwards: the whole book, and nothing past it
unfoldable pub begun : Site → List ℕ → List ℕ → List ℕ
begun S ns s = put s 0 (tab store_words (fresh_word S ns))
