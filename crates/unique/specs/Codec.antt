-- Reading and writing: headers, announces, TLVs, frames.
-- Assumes nothing.
use Rattle.message_type.proofs.MessageTypeTryFromU8.try_from.Reads as try-from
use Rattle.header.proofs.deserialize_header.Reads as deserialize-header
use Rattle.header_writer.proofs.serialize_header.Reads as serialize-header
use Rattle.announce.proofs.deserialize_content.Reads as deserialize-content
use Rattle.announce_writer.proofs.serialize_content.Reads as serialize-content
use Rattle.tlv.proofs.TlvCursor.next.Reads as next
use Rattle.tlv.proofs.check.Reads as check
use Rattle.tlv_type.proofs.TlvTypeFromU16.from.Reads as from-number
use Rattle.tlv_type.proofs.U16FromTlvType.from.Reads as to-number
use Rattle.tlv_type.proofs.TlvType.announce_propagate.Reads as announce-propagate
use Rattle.tlv_builder.proofs.write_entry.Reads as write-entry
use Rattle.tlv_builder.proofs.TlvSetBuilder.add.Reads as add
use Rattle.tlv_set.proofs.list_entry.Reads as list-entry
use Rattle.frame.proofs.read_frame.Reads as read-frame
use Rattle.frame_writer.proofs.write_frame.Reads as write-frame
use Rattle.unique.specs.Once.{OneAnswer, OneAnswerAndExit, alike, alike-number}

pub type-read : OneAnswer try-from.Learnt
type-read κs a z z' e e' p q = alike p q

pub header_read : OneAnswer deserialize-header.Learnt
header_read κs a z z' e e' p q = alike p q

pub header-written : OneAnswerAndExit serialize-header.Learnt (λ κs e. e.1.1.1.0.now)
header-written κs a z z' e e' p q = (alike-number p.0 q.0, alike p.1 q.1)

pub content-read : OneAnswer deserialize-content.Learnt
content-read κs a z z' e e' p q = alike p q

pub content-written : OneAnswerAndExit serialize-content.Learnt (λ κs e. e.1.0.now)
content-written κs a z z' e e' p q = (alike-number p.0 q.0, alike p.1 q.1)

pub entry_read : OneAnswer next.Learnt
entry_read κs a z z' e e' p q = alike p q

pub list-checked : OneAnswer check.Learnt
list-checked κs a z z' e e' p q = alike-number p q

pub listed-entry-read : OneAnswer list-entry.Learnt
listed-entry-read κs a z z' e e' p q = alike p q

pub kind_told : OneAnswer from-number.Learnt
kind_told κs a z z' e e' p q = alike p q

pub number-told : OneAnswer to-number.Learnt
number-told κs a z z' e e' p q = alike p q

pub passing_told : OneAnswer announce-propagate.Learnt
passing_told κs a z z' e e' p q = alike p q

pub entry-written : OneAnswerAndExit write-entry.Learnt (λ κs e. e.0.now)
entry-written κs a z z' e e' p q = (alike-number p.0 q.0, alike p.1 q.1)

pub entry_added : OneAnswerAndExit add.Learnt (λ κs e. e.1.0.now)
entry_added κs a z z' e e' p q = (alike p.0 q.0, alike p.1 q.1)

pub frame_read : OneAnswer read-frame.Learnt
frame_read κs a z z' e e' p q = alike p q

pub frame_written : OneAnswerAndExit write-frame.Learnt (λ κs e. e.1.1.0.now)
frame_written κs a z z' e e' p q = (alike-number p.0 q.0, alike p.1 q.1)
