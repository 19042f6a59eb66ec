-- `hex_line::decode` meets its contract, by the laws of a whole line. Assumes nothing.
use mathlib.Core.Path.{sym, ◌∙◌}
use Rattle.hex_line.proofs.HexLaws.{too_long, odd, no_room, all_digits, some-other}
use Rattle.hex_line.proofs.decode.Goals as goal
use Rattle.hex_line.proofs.decode.Goals.{then-line-gt4096-via-then-line-gt4096, then-line-gt4096-via-else-line-gt4096+then-line-ne0, then-line-gt4096-via-else-line-gt4096+else-line-ne0+then-line-out}

pub returns-then-line-gt4096 : goal.returns-then-line-gt4096
returns-then-line-gt4096 c =
    elim c.then-line-gt4096.branch [
      | then-line-gt4096-via-then-line-gt4096 w ↦ too_long _ _ w.if-line-gt4096.true
      | then-line-gt4096-via-else-line-gt4096+then-line-ne0 w ↦ odd _ _ w.if-line-gt4096.false w.if-line-ne0.true
      | then-line-gt4096-via-else-line-gt4096+else-line-ne0+then-line-out w ↦ no_room _ _ w.if-line-gt4096.false w.if-line-ne0.false w.if-line-out.true
    ]

pub returns-then-decode_pairs-ne0 : goal.returns-then-decode_pairs-ne0
returns-then-decode_pairs-ne0 c =
    let d = c.decode_pairs.ensures in
    rw d.1 (some-other _ _ c.if-line-gt4096.false c.if-line-ne0.false c.if-line-out.false (λ e. c.if-decode_pairs-ne0.true (d.0 ∙ e)))

pub returns : goal.returns
returns c =
    let d = c.decode_pairs.ensures in
    rw d.1 (all_digits _ _ c.if-line-gt4096.false c.if-line-ne0.false c.if-line-out.false (sym d.0 ∙ c.if-decode_pairs-ne0.false))
