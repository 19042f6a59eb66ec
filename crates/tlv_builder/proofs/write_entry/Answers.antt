-- `tlv_builder::write_entry` meets its contract, by the law of each of its ways.
-- Assumes nothing.
use Rattle.std.proofs.Common.{◌+◌, ◌∙◌, length}
use Rattle.wire.specs.Be.{put}
use Rattle.wire.specs.Write.{wrote_15, wrote_1, wrote_0}
use Rattle.tlv_builder.specs.Builder.{entry_bytes, entry_fits}
use Rattle.tlv_builder.proofs.BuilderLaws.{odd_unfit, long_unfit, even-fits, laid}
use Rattle.tlv_builder.proofs.write_entry.Goals as goal
use Rattle.tlv_builder.proofs.write_entry.Goals.{then-n-ne0-via-then-n-ne0, then-n-ne0-via-else-n-ne0+then-n-gt-MAX_VALUE}

pub returns-then-n-ne0 : goal.returns-then-n-ne0
returns-then-n-ne0 c =
    let a = c.args in
    let n = length a.value.now in
    wrote_15 (entry_fits n) (n + 4) a.buffer.now _ (elim c.then-n-ne0.branch [
      | then-n-ne0-via-then-n-ne0 w ↦ odd_unfit n w.if-n-ne0.true
      | then-n-ne0-via-else-n-ne0+then-n-gt-MAX_VALUE w ↦ long_unfit n w.if-n-ne0.false w.if-n-gt-MAX_VALUE.true
    ])

pub returns-then-buffer-n : goal.returns-then-buffer-n
returns-then-buffer-n c =
    let a = c.args in
    let n = length a.value.now in
    wrote_1 (entry_fits n) (n + 4) a.buffer.now _ (even-fits n c.if-n-ne0.false c.if-n-gt-MAX_VALUE.false) c.if-buffer-n.true

pub returns : goal.returns
returns c =
    let a = c.args in
    let n = length a.value.now in
    let b = a.buffer.now in
    let w = wrote_0 (entry_fits n) (n + 4) b (put b 0 (entry_bytes a.tlv_type a.value.now)) (even-fits n c.if-n-ne0.false c.if-n-gt-MAX_VALUE.false) c.if-buffer-n.false in
    (w.0, rw (c.put_bytes.ensures, c.put_be-2.ensures, c.put_be.ensures) (laid b a.tlv_type a.value.now c.if-buffer-n.false ∙ w.1))
