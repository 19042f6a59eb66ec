-- `replay::decoded` meets its contract: the digits are within the line, and their bytes within the room for them. Assumes nothing.
use Rattle.std.proofs.Common.{sym}
use Rattle.hex_line.proofs.HexLaws.{decoded_fits}
use Rattle.replay.proofs.decoded.Goals as goal

pub returns-in-Some : goal.returns-in-Some
returns-in-Some c = decoded_fits _ _ _ (sym c.in-Some.ensures.0)
