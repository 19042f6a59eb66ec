-- `slot_writer::store_message` meets its contract: eight stores make the eight words, with the numbers that the callees give.
-- Assumes nothing.
use native.Mathlib.Omega.{arith}
use lib.ListN.{length-set}
use Rattle.slot.specs.Blocks.{sets-all}
use Rattle.slot.specs.Slot.{encode}
use Rattle.slot_writer.proofs.store_message.Goals as goal

pub shape_of-slot : goal.shape_of-slot
shape_of-slot c = simp length-set

pub returns : goal.returns
unfolding encode
returns c =
    let a = c.args in
    rw (
      c.pack_rest-rest.ensures,
      c.flags7_of.ensures,
      c.flags6_of.ensures,
      c.pack_origin-origin.ensures,
      c.pack_quality-quality.ensures,
      c.interval_bits.ensures,
      c.pack_counts-counts.ensures,
      c.offset_bits.ensures,
      c.correction_bits-correction.ensures,
    )
    (sets-all a.slot.now (encode a.m) (omega arith))

pub bounds-slot-4 : goal.bounds-slot-4
bounds-slot-4 c = simp length-set (omega arith)

pub bounds-slot-5 : goal.bounds-slot-5
bounds-slot-5 c = simp length-set (omega arith)

pub bounds-slot-6 : goal.bounds-slot-6
bounds-slot-6 c = simp length-set (omega arith)

pub bounds-slot-7 : goal.bounds-slot-7
bounds-slot-7 c = simp length-set (omega arith)
