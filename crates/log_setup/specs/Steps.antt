-- Each way through the answer to a line `00`, for the proofs of the code.
-- Assumes nothing.
use Rattle.std.specs.Prelude.{ℕ, ◌+◌, ◌*◌, ◌<◌, ◌≡◌, true, List, [], ◌∷◌, ◌++◌, length, take, set}
use Rattle.std.proofs.Math.Path.{refl}
use Rattle.std.proofs.Common.{sym, ap, ◌∙◌, add-one, arith, eq-eqb, ne_eqb, take-suc-set}
use Rattle.std.proofs.Math.Option.{none, some}
use Rattle.std.proofs.Math.ListN.{get_or}
use Rattle.std.proofs.lemmas.List.Edits.{sets}
use Rattle.wire.specs.Be.{be_at}
use Rattle.wire.specs.Refusal.{on-done, on-refused}
use Rattle.book.specs.Below.{tab_snoc}
use Rattle.stored.specs.Calls.{exit_of, number_of}
use Rattle.fresh.specs.Fresh.{site_with}
use Rattle.foreign_master.specs.Calls.{fresh_answer, fresh_exit}
use Rattle.log_answer.specs.declared.Setup.{Setup}
use Rattle.log_answer.specs.declared.Answered.{Answered}
use Rattle.log_answer.specs.Answer.{text_of, Answers}
use Rattle.log_answer.specs.Steps.{told_as}
use Rattle.log_setup.specs.Start.{setup_at, intervals_at, start_at, start_asked}

-- ---- what it asks

module _ (line : List ℕ) where
  pub start-short : length line < 16 → none ≡ start_asked line
  unfolding start_asked
  start-short h = rw (ne_eqb (length line) (16 + get_or line 1 0 * 8) (λ e. omega (arith, h, e))) refl

  pub start-other : (length line ≡ 16 + get_or line 1 0 * 8 → ⊥) → none ≡ start_asked line
  unfolding start_asked
  start-other h = rw (ne_eqb (length line) (16 + get_or line 1 0 * 8) h) refl

  pub start_right : length line ≡ 16 + get_or line 1 0 * 8 → some (record { call = start_at line; setup = setup_at line }) ≡ start_asked line
  unfolding start_asked
  start_right h = rw (eq-eqb (length line) (16 + get_or line 1 0 * 8) h) refl

-- ---- what it tells

module _ (setup : Setup) (line s out : List ℕ) (r : Answered) (s' out' : List ℕ) (n : ℕ) (t : (r.setup ≡ setup) × (r.count ≡ 3) × (out' ≡ sets out 0 (text_of (n ∷ [])))) where
  -- a setup that is refused
  pub start-refused : length line ≡ 16 + get_or line 1 0 * 8 → n ≡ number_of (start_at line) s → (n ≡ 0 → ⊥) → s' ≡ exit_of (start_at line) s → Answers (start_asked line) setup s out r s' out'
  start-refused h e ne words =
      told_as (some (record { call = start_at line; setup = setup_at line })) (start_asked line) (start_right line h) setup s out n (ap (λ (k : ℕ). k ∷ []) (sym e)) r s' out'
      (t.0 ∙ sym (on-refused (number_of (start_at line) s) (setup_at line) (λ _. setup) (λ z. ne (e ∙ z)))) (t.1, t.2) words

-- a good setup
pub start-done : (setup : Setup) (line s out : List ℕ) (r : Answered) (s' out' : List ℕ) → (r.setup ≡ setup_at line) × (r.count ≡ 3) × (out' ≡ sets out 0 (text_of (0 ∷ [])))
    → length line ≡ 16 + get_or line 1 0 * 8 → number_of (start_at line) s ≡ 0 → s' ≡ exit_of (start_at line) s → Answers (start_asked line) setup s out r s' out'
start-done setup line s out r s' out' t h e words =
    told_as (some (record { call = start_at line; setup = setup_at line })) (start_asked line) (start_right line h) setup s out 0 (ap (λ (k : ℕ). k ∷ []) e) r s' out'
    (t.0 ∙ sym (on-done (number_of (start_at line) s) (setup_at line) (λ _. setup) e)) (t.1, t.2) words

-- ---- the intervals of a setup line, one more

pub setup-is : (line : List ℕ) (variance : ℕ) → variance ≡ be_at line 13 2
    → record {
      ports = get_or line 1 0;
      priority_1 = get_or line 10 0;
      quality = record { clock_class = get_or line 11 0; clock_accuracy = get_or line 12 0; offset_scaled_log_variance = variance };
      priority_2 = get_or line 15 0;
    }
    ≡ setup_at line
unfolding setup_at
setup-is line variance e =
    ap (λ (v : ℕ). record { ports = get_or line 1 0; priority_1 = get_or line 10 0; quality = record { clock_class = get_or line 11 0; clock_accuracy = get_or line 12 0; offset_scaled_log_variance = v }; priority_2 = get_or line 15 0 }) e

pub interval-none : (line v : List ℕ) → take 0 v ≡ intervals_at line 0
unfolding intervals_at
interval-none line v = refl

pub interval-more : (line v : List ℕ) (i : ℕ) → i < length v → take i v ≡ intervals_at line i → take (i + 1) (set v i (be_at line (16 + i * 8) 8)) ≡ intervals_at line (i + 1)
unfolding intervals_at
interval-more line v i h e =
    let f : ℕ → ℕ = λ k. be_at line (16 + k * 8) 8 in
    rw (add-one i) (take-suc-set v i (f i) h ∙ ap (λ (l : List ℕ). l ++ (f i ∷ [])) e ∙ sym (tab_snoc i f))

-- the call for the fresh start, by what was read
pub starts : (line s : List ℕ) (own n : ℕ) (listed ns s' : List ℕ) → own ≡ be_at line 2 8 → ns ≡ intervals_at line (get_or line 1 0) → length listed ≡ 0
    → n ≡ fresh_answer s (site_with own true listed) ns → s' ≡ fresh_exit s (site_with own true listed) ns → (n ≡ number_of (start_at line) s) × (s' ≡ exit_of (start_at line) s)
starts line s own n [] ns s' o i z e x = (
  e ∙ ap (λ (k : ℕ). fresh_answer s (site_with k true []) ns) o ∙ ap (fresh_answer s (site_with (be_at line 2 8) true [])) i,
  x ∙ ap (λ (k : ℕ). fresh_exit s (site_with k true []) ns) o ∙ ap (fresh_exit s (site_with (be_at line 2 8) true [])) i,
)
starts line s own n (l ∷ ls) ns s' o i z e x = absurd (omega (arith, z))
