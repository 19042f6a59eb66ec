-- Each way out of the reader of the content.
-- Assumes nothing.
use Rattle.std.specs.Prelude.{ℕ, ◌≤◌, ◌<◌, List, ◌≡◌, refl, Bool, true, false, cond, leb, length, Ok}
use Rattle.std.proofs.Math.Option.{none, some}
use Rattle.std.proofs.Common.{le-leb}
use Rattle.std.proofs.lemmas.Bool.{lt-leb}
use Rattle.header.specs.declared.Header.{Header}
use Rattle.refused.specs.Refusal.{refused, answer_of}
use Rattle.announce.specs.Wire.{content_at, read_content}

-- ---- the two ways of a read

module _ (h : Header) (s : List ℕ) where
  pub read_1 : length s < 30 → refused 1 ≡ read_content h s
  unfolding read_content
  read_1 l = rw (lt-leb 30 (length s) l)

  pub read_0 : 30 ≤ length s → Ok (content_at h s 0) ≡ read_content h s
  unfolding read_content
  read_0 l = rw (le-leb 30 (length s) l)

-- in the paper's numbers: 1 below 30 bytes, else 0 with the message
pub content-answer : (h : Header) (s : List ℕ) → answer_of (read_content h s) ≡ cond (leb 30 (length s)) (0, some (content_at h s 0)) (1, none)
unfolding read_content
content-answer h s = by (leb 30 (length s))
  where
    by : (b : Bool) → answer_of (cond b (Ok (content_at h s 0)) (refused 1)) ≡ cond b (0, some (content_at h s 0)) (1, none)
    by true = refl
    by false = refl
