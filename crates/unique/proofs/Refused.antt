-- A decision that is refused has no words, so it leaves those that are lent for its answer.
-- Assumes nothing.
use Rattle.std.specs.Prelude.{ℕ, ◌≡◌, List, Err}
use Rattle.std.proofs.Common.{sym}
use Rattle.wire.specs.Be.{put}
use Rattle.wire.proofs.BeLaws.{put-nil}
use Rattle.refused.specs.declared.Refusal.{Refusal}
use Rattle.answers.specs.Answers.{decision_words}

pub decision-refused : (s : List ℕ) (e : Refusal) → s ≡ put s 0 (decision_words (Err e))
decision-refused s e = sym (put-nil s 0)
