-- `replay_messages::answer_tlvs` meets its contract and ends: each entry is within the list, and the next one is further on. Assumes nothing.
use Rattle.std.proofs.Common.{◌≡◌, ◌-◌, ◌≤◌, length}
use Rattle.replay_messages.proofs.answer_tlvs.Given as goal

abbrev pub invariant-loop-tlv_type : goal.invariant-loop-tlv_type
invariant-loop-tlv_type l = (length l.buffer ≡ length l.initial.buffer) × (l.builder.used ≤ length l.initial.buffer)

abbrev pub decreases-loop-tlv_type : goal.decreases-loop-tlv_type
decreases-loop-tlv_type l = length l.tlvs - l.cursor.at
