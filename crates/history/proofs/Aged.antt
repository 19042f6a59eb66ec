-- What ageing does to all messages of a port: those below the limit stay, the others are reported, in their order.
-- Assumes nothing.
use Rattle.std.specs.Prelude.{◌≡◌, Bool, false, cond, ℕ, leb, length}
use Rattle.std.proofs.Math.Path.{refl, sym, ap}
use Rattle.std.proofs.Common.{◌∙◌, arith, leb-false}
use Rattle.std.proofs.Math.Bool.{not}
use mathlib.Core.List.{List, [], ◌∷◌, ◌++◌, map}
use Rattle.choice.specs.Choice.{joined}
use Rattle.history.specs.Rules.{age_limit}
use Rattle.history.specs.Port.{Reads, Master, Port, sift, has_messages, held_by, older, young, remaining, leaving, age_master, age_port}
use Rattle.history.proofs.Tests.{by}

module _ {A : Type 0} where
  -- two lists changed and sifted are so one by one
  sift-append : (f : A → Bool) (g : A → A) (xs ys : List A) → sift f (map g (xs ++ ys)) ≡ sift f (map g xs) ++ sift f (map g ys)
  sift-append f g [] ys = refl
  sift-append f g (x ∷ xs) ys =
      by (λ b. cond b (g x ∷ sift f (map g (xs ++ ys))) (sift f (map g (xs ++ ys))) ≡ cond b (g x ∷ sift f (map g xs)) (sift f (map g xs)) ++ sift f (map g ys))
      (f (g x)) (λ t. ap (λ (l : List A). g x ∷ l) (sift-append f g xs ys)) (λ t. sift-append f g xs ys)

  -- masters without a message hold nothing
  empty : (ms : List A) → leb 1 (length ms) ≡ false → ms ≡ []
  empty [] e = refl
  empty (m ∷ ms) e = absurd (omega (arith, leb-false 1 (length (m ∷ ms)) e))

  held-sift : (Ms : List (Master A)) → held_by (sift has_messages Ms) ≡ held_by Ms
  held-sift [] = refl
  held-sift (M ∷ Ms) =
      by (λ b. held_by (cond b (M ∷ sift has_messages Ms) (sift has_messages Ms)) ≡ M.messages ++ held_by Ms) (has_messages M)
      (λ t. ap (λ (l : List A). M.messages ++ l) (held-sift Ms))
      (λ t. held-sift Ms ∙ ap (λ (l : List A). l ++ held_by Ms) (sym (empty M.messages t)))

module _ {A : Type 0} (R : Reads A) (step limit : ℕ) where
  -- two lists age one by one
  pub remaining-append : (xs ys : List A) → remaining R step limit (xs ++ ys) ≡ remaining R step limit xs ++ remaining R step limit ys
  unfolding remaining
  remaining-append = sift-append (young R limit) (older R step)

  pub leaving-append : (xs ys : List A) → leaving R step limit (xs ++ ys) ≡ leaving R step limit xs ++ leaving R step limit ys
  unfolding leaving
  leaving-append = sift-append (λ m. not (young R limit m)) (older R step)

  masters-held : (Ms : List (Master A)) → held_by (map (age_master R step limit) Ms) ≡ remaining R step limit (held_by Ms)
  unfolding remaining
  masters-held [] = refl
  masters-held (M ∷ Ms) =
      ap (λ (l : List A). remaining R step limit M.messages ++ l) (masters-held Ms) ∙ sym (remaining-append M.messages (held_by Ms))

  masters-out : (Ms : List (Master A)) → joined (map (λ (M : Master A). leaving R step limit M.messages) Ms) ≡ leaving R step limit (held_by Ms)
  unfolding leaving
  masters-out [] = refl
  masters-out (M ∷ Ms) =
      ap (λ (l : List A). leaving R step limit M.messages ++ l) (masters-out Ms) ∙ sym (leaving-append M.messages (held_by Ms))

module _ {A : Type 0} (R : Reads A) (step : ℕ) (P : Port A) where
  -- what a port holds afterwards, of all that it held
  pub held-aged : held_by (age_port R step P).port.masters ≡ remaining R step (age_limit P.interval) (held_by P.masters)
  unfolding age_port
  held-aged = held-sift (map (age_master R step (age_limit P.interval)) P.masters) ∙ masters-held R step (age_limit P.interval) P.masters

  -- what it reports
  pub out-aged : (age_port R step P).aged_out ≡ leaving R step (age_limit P.interval) (held_by P.masters)
  unfolding age_port
  out-aged = masters-out R step (age_limit P.interval) P.masters
