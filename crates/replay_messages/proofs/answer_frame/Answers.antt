-- `replay_messages::answer_frame` is safe: the TLVs of a message are within its frame. Assumes nothing.
use Rattle.std.proofs.Common.{sym, ◌∙◌}
use Rattle.frame_laws.proofs.Accepted.{tlvs-within}
use Rattle.replay_messages.proofs.answer_frame.Goals as goal

pub slice_bounds-answer_message-count : goal.slice_bounds-answer_message-count
slice_bounds-answer_message-count c = (tlvs-within _ _ (sym c.read_frame.ensures ∙ c.in-Ok.is)).0

pub slice_bounds-answer_message-start : goal.slice_bounds-answer_message-start
slice_bounds-answer_message-start c = (tlvs-within _ _ (sym c.read_frame.ensures ∙ c.in-Ok.is)).0

pub slice_bounds-answer_message-end : goal.slice_bounds-answer_message-end
slice_bounds-answer_message-end c = (tlvs-within _ _ (sym c.read_frame.ensures ∙ c.in-Ok.is)).1
