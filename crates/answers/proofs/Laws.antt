-- The words of a decision, one port after the other.
-- Assumes nothing.
use Rattle.std.specs.Prelude.{ℕ, suc, ◌+◌, ◌*◌, ◌≤◌, ◌<◌, ◌≡◌, refl, List, [], ◌∷◌, ◌++◌, length, take, get_or, set}
use Rattle.std.proofs.Common.{sym, ap, ◌∙◌, append-nil, append_assoc, arith, length-append, take-suc, length-take-le}
use Rattle.wire.specs.Be.{put}
use Rattle.wire.proofs.BeLaws.{length-put, put-put}
use Rattle.decision.specs.declared.RecommendedState.{RecommendedState}
use Rattle.decision.specs.declared.RecommendedState.TheVariants.{Stay, M1, M2, M3, P1, P2, S1}
use Rattle.states.specs.declared.PortAnswer.{PortAnswer}
use Rattle.bmca.specs.declared.Decision.{Decision}
use Rattle.lent.specs.Laws.{put_next}
use Rattle.announce_words.specs.Words.{announce_words}
use Rattle.answers.specs.Answers.{port_size, decision_size, tally_words, state_words, ports_words, decided_words}

-- a state takes 22 words
pub length-state : (s : RecommendedState) → length (state_words s) ≡ port_size
unfolding state_words announce_words
length-state Stay = refl
length-state (M1 own) = refl
length-state (M2 own) = refl
length-state (M3 m) = refl
length-state (P1 m) = refl
length-state (P2 m) = refl
length-state (S1 m) = refl

pub length-ports : (xs : List PortAnswer) → length (ports_words xs) ≡ length xs * port_size
unfolding ports_words
length-ports [] = refl
length-ports (x ∷ xs) = rw (length-append (state_words x.state) (ports_words xs), length-state x.state, length-ports xs) (omega arith)

-- one port more
ports_snoc : (xs : List PortAnswer) (x : PortAnswer) → ports_words (xs ++ (x ∷ [])) ≡ ports_words xs ++ state_words x.state
unfolding ports_words
ports_snoc [] x = append-nil (state_words x.state)
ports_snoc (y ∷ ys) x = rw (ports_snoc ys x) (sym (append_assoc (state_words y.state) (ports_words ys) (state_words x.state)))

pub ports-next : (xs : List PortAnswer) (i : ℕ) (d : PortAnswer) → i < length xs → ports_words (take (suc i) xs) ≡ ports_words (take i xs) ++ state_words (get_or xs i d).state
ports-next xs i d h = ap ports_words (take-suc xs i d h) ∙ ports_snoc (take i xs) (get_or xs i d)

-- a state written after those of i ports
module _ (xs : List PortAnswer) (eight : length xs ≡ 8) (i : ℕ) (lt : i < 8) where
  fits : (t : List ℕ) (d : PortAnswer) → decision_size ≤ length t → 4 + i * port_size + length (state_words (get_or xs i d).state) ≤ length t
  fits t d room = rw (length-state (get_or xs i d).state) (omega arith)

  pub length-next : (t : List ℕ) (d : PortAnswer) → decision_size ≤ length t → length (put t (4 + i * port_size) (state_words (get_or xs i d).state)) ≡ length t
  length-next t d room = length-put t (4 + i * port_size) (state_words (get_or xs i d).state) (fits t d room)

  pub put-next-state : (s : List ℕ) (d : PortAnswer) → decision_size ≤ length s
      → put (put s 4 (ports_words (take i xs))) (4 + i * port_size) (state_words (get_or xs i d).state) ≡ put s 4 (ports_words (take (suc i) xs))
  put-next-state s d room =
      let l : length (ports_words (take i xs)) ≡ i * port_size = length-ports (take i xs) ∙ ap (λ (k : ℕ). k * port_size) (length-take-le i xs (omega arith)) in
      put-put s 4 (4 + i * port_size) (ports_words (take i xs)) (state_words (get_or xs i d).state) (omega (arith, l)) (fits s d room)
      ∙ ap (put s 4) (sym (ports-next xs i d (omega arith)))

-- the words of a decision, one run after the other
module _ (s : List ℕ) (d : Decision) (room : decision_size ≤ length s) where
  abbrev pub head_put : List ℕ
  head_put = set (put s 0 (tally_words d.tallies)) 3 d.ports

  head-put : head_put ≡ put s 0 (tally_words d.tallies ++ (d.ports ∷ []))
  head-put = put_next s 0 3 (tally_words d.tallies) d.ports refl (omega arith)

  -- the tallies and the count leave the length as it is
  pub length-head : length head_put ≡ length s
  length-head = ap length head-put ∙ length-put s 0 (tally_words d.tallies ++ (d.ports ∷ [])) (omega arith)

  module _ (eight : length d.answers ≡ 8) where
    long : length (ports_words d.answers) ≡ 8 * port_size
    long = length-ports d.answers ∙ ap (λ (k : ℕ). k * port_size) eight

    pub length-decision : length (put head_put 4 (ports_words d.answers)) ≡ length s
    length-decision = length-put head_put 4 (ports_words d.answers) (omega (arith, long, length-head)) ∙ length-head

    -- with the ports they are the words of the decision
    pub decision-put : put head_put 4 (ports_words d.answers) ≡ put s 0 (decided_words d)
    decision-put =
        ap (λ (t : List ℕ). put t 4 (ports_words d.answers)) head-put
        ∙ put-put s 0 4 (tally_words d.tallies ++ (d.ports ∷ [])) (ports_words d.answers) refl (omega (arith, long))
