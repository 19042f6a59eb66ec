-- `replay_codec::answer_frame` is safe: a frame whose header is read has the 34 bytes before its content.
-- Assumes nothing.
use Rattle.std.proofs.Common.{sym, ◌∙◌}
use Rattle.header.proofs.Laws.{read-long}
use Rattle.replay_codec.proofs.answer_frame.Goals as goal

pub slice_bounds-answer_content-count : goal.slice_bounds-answer_content-count
slice_bounds-answer_content-count c = read-long _ _ (sym c.deserialize_header.ensures ∙ c.in-Ok.is)

pub slice_bounds-answer_content-start : goal.slice_bounds-answer_content-start
slice_bounds-answer_content-start c = read-long _ _ (sym c.deserialize_header.ensures ∙ c.in-Ok.is)
