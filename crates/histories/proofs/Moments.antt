-- At every moment of a history the book is what the calls since the last fresh start made of it, and it is sound.
-- Assumes nothing.
use Rattle.std.specs.Prelude.{◌≡◌, refl, true, false, cond, List, [], ◌∷◌, ◌++◌, map, ℕ}
use Rattle.std.proofs.Common.{sym, ap, subst, ◌∙◌, append-nil, append_assoc}
use Rattle.std.proofs.Math.Option.{Option, none, some}
use Rattle.history.specs.Port.{Reads, Site}
use Rattle.history.specs.Book.{Book, Call, fresh_book, after}
use Rattle.history.specs.Sound.{Lawful, sound_book, startable}
use Rattle.history.proofs.Tests.{by}
use Rattle.history.proofs.Kept.{after-sound, fresh-sound}
use Rattle.histories.specs.History.{Event, start, call, Since, since_after, since_from, since, begun, step, run_all, run}

-- ---- the last fresh start that was taken

module _ {A : Type 0} where
  since-append : (o : Option (Since A)) (es ds : List (Event A)) → since_from o (es ++ ds) ≡ since_from (since_from o es) ds
  since-append o [] ds = refl
  since-append o (e ∷ es) ds = since-append (since_after o e) es ds

  -- one that is refused is as if it had not been
  pub since-refused : (es : List (Event A)) (S : Site) (ns : List ℕ) → startable S.listed ns ≡ false → since (es ++ (start S ns ∷ [])) ≡ since es
  since-refused es S ns r =
      since-append none es (start S ns ∷ []) ∙ ap (λ b. cond b (some (record { site = S; intervals = ns; calls = [] })) (since es)) r

  calls-since : (s : Since A) (cs : List (Call A)) → since_from (some s) (map call cs) ≡ some (record { site = s.site; intervals = s.intervals; calls = s.calls ++ cs })
  calls-since s [] = ap (λ l. some (record { site = s.site; intervals = s.intervals; calls = l })) (sym (append-nil s.calls))
  calls-since s (c ∷ cs) =
      calls-since (record { site = s.site; intervals = s.intervals; calls = s.calls ++ (c ∷ []) }) cs
      ∙ ap (λ l. some (record { site = s.site; intervals = s.intervals; calls = l })) (append_assoc s.calls (c ∷ []) cs)

  -- one that is taken counts from then on, whatever came before it
  pub since-taken : (es : List (Event A)) (S : Site) (ns : List ℕ) (cs : List (Call A)) → startable S.listed ns ≡ true
      → since (es ++ (start S ns ∷ map call cs)) ≡ some (record { site = S; intervals = ns; calls = cs })
  since-taken es S ns cs y =
      let s : Since A = record { site = S; intervals = ns; calls = [] } in
      since-append none es (start S ns ∷ map call cs) ∙ ap (λ b. since_from (cond b (some s) (since es)) (map call cs)) y ∙ calls-since s cs

-- ---- the book at every moment

module _ {A : Type 0} (R : Reads A) where
  -- calls in two parts
  pub run-append : (B : Book A) (cs ds : List (Call A)) → run R B (cs ++ ds) ≡ run R (run R B cs) ds
  run-append B [] ds = refl
  run-append B (c ∷ cs) ds = run-append (after R c B) cs ds

  -- a book that a fresh start and the calls since have made
  pub record MadeBy (B : Book A) (s : Since A) : Type 0 where
    pub taken : startable s.site.listed s.intervals ≡ true
    pub book : B ≡ run R (begun s) s.calls

  -- what holds of the one that is there
  abbrev AllOf : (P : Since A → Type 0) → Option (Since A) → Type 0
  AllOf P none = Unit
  AllOf P (some s) = P s

  step_made : (B : Book A) (o : Option (Since A)) (e : Event A) → AllOf (MadeBy B) o → AllOf (MadeBy (step R e B)) (since_after o e)
  step_made B o (start S ns) m =
      by (λ b. AllOf (MadeBy (cond b (fresh_book S ns) B)) (cond b (some (record { site = S; intervals = ns; calls = [] })) o)) (startable S.listed ns)
      (λ y. record { taken = y; book = refl }) (λ y. m)
  step_made B none (call c) m = tt
  step_made B (some s) (call c) m =
      record { taken = m.taken; book = ap (after R c) m.book ∙ sym (run-append (begun s) s.calls (c ∷ [])) }

  all_made : (B : Book A) (o : Option (Since A)) (es : List (Event A)) → AllOf (MadeBy B) o → AllOf (MadeBy (run_all R B es)) (since_from o es)
  all_made B o [] m = m
  all_made B o (e ∷ es) m = all_made (step R e B) (since_after o e) es (step_made B o e m)

  -- After any history with a fresh start that was taken, whatever lay there before, the book is the one that the calls since
  -- the last of these make of a fresh book.
  pub since-run : (B : Book A) (es : List (Event A)) (s : Since A) → since es ≡ some s → MadeBy (run_all R B es) s
  since-run B es s e = subst (AllOf (MadeBy (run_all R B es))) e (all_made B none es tt)

module _ {A : Type 0} {R : Reads A} (law : Lawful R) where
  -- every call of a history keeps a book sound
  step-sound : (e : Event A) (B : Book A) → sound_book R B ≡ true → sound_book R (step R e B) ≡ true
  step-sound (start S ns) B s = by (λ b. sound_book R (cond b (fresh_book S ns) B) ≡ true) (startable S.listed ns) (fresh-sound R S ns) (λ y. s)
  step-sound (call c) B s = after-sound law c B s

  pub history_sound : (es : List (Event A)) (B : Book A) → sound_book R B ≡ true → sound_book R (run_all R B es) ≡ true
  history_sound [] B s = s
  history_sound (e ∷ es) B s = history_sound es (step R e B) (step-sound e B s)

  -- so do the calls after a fresh start
  run_sound : (B : Book A) (cs : List (Call A)) → sound_book R B ≡ true → sound_book R (run R B cs) ≡ true
  run_sound B [] s = s
  run_sound B (c ∷ cs) s = run_sound (after R c B) cs (after-sound law c B s)

  -- From the first fresh start that was taken on, the book is sound at every moment, whatever lay there before.
  pub since-sound : (B : Book A) (es : List (Event A)) (s : Since A) → since es ≡ some s → sound_book R (run_all R B es) ≡ true
  since-sound B es s e =
      let m = since-run R B es s e in
      ap (sound_book R) m.book ∙ run_sound (begun s) s.calls (fresh-sound R s.site s.intervals m.taken)
