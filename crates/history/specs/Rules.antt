-- The numbers and the rules of a book that a request may change, each behind one name.
-- Assumes nothing.
use Rattle.std.specs.Prelude.{ℕ, ◌+◌, ◌-◌, ◌*◌, ◌%◌, ◌^◌, Bool, ◌&&◌, ltb, leb}

-- how many ports a book has at most, masters a port, messages a master, clocks the acceptable list
abbrev pub ports_max : ℕ
ports_max = 8

abbrev pub masters_max : ℕ
masters_max = 8

abbrev pub messages_max : ℕ
messages_max = 8

abbrev pub listed_max : ℕ
listed_max = 16

-- the sequence rule: the difference to the one before, mod 65536, is below 32767
abbrev pub in_step : ℕ → ℕ → Bool
in_step before after = ltb ((after + 65536 - before) % 65536) 32767

-- steps removed from which on a message is not held
abbrev pub steps_limit : ℕ
steps_limit = 255

-- an interval is 1 to 2^60 - 1 units; a message is held while its age is below four of them
abbrev pub interval_right : ℕ → Bool
interval_right n = leb 1 n && ltb n (2 ^ 60)

abbrev pub age_limit : ℕ → ℕ
age_limit interval = 4 * interval

-- a step of ageing is below this
abbrev pub step_max : ℕ
step_max = 2 ^ 62
