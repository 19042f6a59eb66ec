-- The bounds of what is read. Assumes nothing.
use Rattle.std.specs.Prelude.{ℕ, ◌≤◌}
use Rattle.input.specs.declared.Next.{Next}
use Rattle.input.specs.declared.Next.TheVariants as N

-- a line stands within the buffer that is lent for it, which has `limit` bytes
abbrev pub NextWithin : ℕ → Next → Type 0
NextWithin limit (N.Line n place) = n ≤ limit
NextWithin limit (N.TooLong place) = Unit
NextWithin limit N.End = Unit
