-- The next line of a piece of the input, and the line at its end, as they are cut and answered.
-- Assumes nothing.
use Rattle.std.specs.Prelude.{ℕ, ◌≤◌, ◌<◌, List, take, Option, Some, None}
use Rattle.feed.specs.Feed.{Next, found, taken}
use Rattle.lines.specs.Lines.{Told, line, too_long, Open}
use Rattle.lines.specs.declared.Last.{Last}
use Rattle.lines.specs.declared.Last.TheVariants as L
use Rattle.log_answer.specs.declared.Setup.{Setup}
use Rattle.log_answer.specs.declared.Answered.{Answered}
use Rattle.log_answer.specs.Answer.{Known}
use Rattle.log_asked.specs.Line.{line_answered, line_store, line_out, none_answered, none_out}
use Rattle.log_step.specs.declared.Step.{Step}
use Rattle.log_step.specs.declared.Step.TheVariants as S

-- ---- what is answered to a line that was cut out, and what is left of the store and of the room for the answer

abbrev pub told_answered : Told → Setup → (s out : List ℕ) → Answered
told_answered (line l) setup s out = line_answered setup l s out
told_answered too_long setup s out = none_answered setup out

abbrev pub told_store : Told → Setup → (s out : List ℕ) → List ℕ
told_store (line l) setup s out = line_store setup l s out
told_store too_long setup s out = s

abbrev pub told_out : Told → Setup → (s out : List ℕ) → List ℕ
told_out (line l) setup s out = line_out setup l s out
told_out too_long setup s out = none_out out

-- ---- a call on a piece, by what the cutting finds

abbrev pub step_of : Next Open Told → Setup → (s out : List ℕ) → Step
step_of (found t o next) setup s out = S.Line (told_answered t setup s out) next
step_of (taken o) setup s out = S.Taken o.count

abbrev pub step_store : Next Open Told → Setup → (s out : List ℕ) → List ℕ
step_store (found t o next) setup s out = told_store t setup s out
step_store (taken o) setup s out = s

abbrev pub step_out : Next Open Told → Setup → (s out : List ℕ) → List ℕ
step_out (found t o next) setup s out = told_out t setup s out
step_out (taken o) setup s out = out

-- ---- the end of the input, by what stands open

abbrev pub rest_of : Last → (buffer : List ℕ) → Setup → (s out : List ℕ) → Option Answered
rest_of (L.Line n) buffer setup s out = Some (line_answered setup (take n buffer) s out)
rest_of L.TooLong buffer setup s out = Some (none_answered setup out)
rest_of L.Nothing buffer setup s out = None

abbrev pub rest_store : Last → (buffer : List ℕ) → Setup → (s out : List ℕ) → List ℕ
rest_store (L.Line n) buffer setup s out = line_store setup (take n buffer) s out
rest_store L.TooLong buffer setup s out = s
rest_store L.Nothing buffer setup s out = s

abbrev pub rest_out : Last → (buffer : List ℕ) → Setup → (s out : List ℕ) → List ℕ
rest_out (L.Line n) buffer setup s out = line_out setup (take n buffer) s out
rest_out L.TooLong buffer setup s out = none_out out
rest_out L.Nothing buffer setup s out = out

-- ---- what follows, for callers: an answer stands within the room for it, and a call that finds a line goes on, within the piece

abbrev pub StepWithin : (room size at : ℕ) → Step → Type 0
StepWithin room size at (S.Line answered next) = (answered.count ≤ room) × (at < next) × (next ≤ size)
StepWithin room size at (S.Taken n) = Unit

abbrev pub RestWithin : (room : ℕ) → Option Answered → Type 0
RestWithin room (Some answered) = answered.count ≤ room
RestWithin room None = Unit

-- the store is sound once something is set up
abbrev pub StepKnown : Setup → Step → List ℕ → Type 0
StepKnown setup (S.Line answered next) s = Known 0 answered.setup s
StepKnown setup (S.Taken n) s = Known 0 setup s
