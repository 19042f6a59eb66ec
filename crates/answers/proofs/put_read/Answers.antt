-- `answers::put_read` meets its contract: by what was read.
-- Assumes nothing.
use mathlib.Core.Path.{sym, ap, ◌∙◌}
use Rattle.wire.specs.Be.{put}
use Rattle.answers.specs.Answers.{read_words}
use Rattle.answers.proofs.put_read.Goals as goal

pub returns-in-End : goal.returns-in-End
returns-in-End c = c.put_words.ensures ∙ ap (λ t. put c.args.s.now 0 (read_words t)) (sym c.in-End.is)

pub returns-in-Entry : goal.returns-in-Entry
returns-in-Entry c = c.put_entry.ensures ∙ ap (λ t. put c.args.s.now 0 (read_words t)) (sym c.in-Entry.is)
