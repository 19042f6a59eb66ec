-- The bounds of what is read. Assumes nothing.
use Rattle.std.specs.Prelude.{ℕ, ◌≤◌}
use Rattle.replay.specs.declared.Next.{Next}
use Rattle.replay.specs.declared.Next.TheVariants as N

-- a line's bytes stand within the buffer that is lent for them, which has `limit` bytes
abbrev pub NextWithin : ℕ → Next → Type 0
NextWithin limit (N.Bytes n place) = n ≤ limit
NextWithin limit (N.Bad place) = Unit
NextWithin limit N.End = Unit
