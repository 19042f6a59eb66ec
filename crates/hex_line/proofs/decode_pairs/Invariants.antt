-- `hex_line::decode_pairs` meets its contract: the pairs that are left lead, from any turn, to the same bytes. Assumes nothing.
use Prim.Native.Nat.{◌+◌, ◌*◌, ◌≤◌}
use mathlib.Core.Path.{◌≡◌}
use lib.ListN.{length, drop}
use lib.Seq.{sets}
use Rattle.hex_line.specs.Hex.{pairs_of, missed}
use Rattle.hex_line.proofs.decode_pairs.Given as goal

abbrev pub invariant-loop-i : goal.invariant-loop-i
invariant-loop-i l = (sets l.out l.i (pairs_of (drop (l.i * 2) l.line)) ≡ sets l.initial.out 0 (pairs_of l.line))
    × (l.misses + missed (drop (l.i * 2) l.line) ≡ missed l.line)
    × (length l.out ≡ length l.initial.out)
    × (l.misses ≤ l.i * 2)
