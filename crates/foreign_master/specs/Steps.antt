-- Each way through the calls, for the proofs of the code.
-- Assumes nothing.
use Rattle.std.specs.Prelude.{ℕ, List, Result, Ok}
use Rattle.wire.specs.Refusal.{on_zero}
use Rattle.refused.specs.declared.Refusal.{Refusal}
use Rattle.refused.specs.Refusal.{refused}
use Rattle.announce.specs.declared.AnnounceMessage.{AnnounceMessage}
use Rattle.refusal.specs.Refusal.{refusal_in}
use Rattle.admission.specs.Admit.{evicted_in, registered_in}
use Rattle.foreign_master.specs.declared.Tallies.{Tallies}
use Rattle.foreign_master.specs.Calls.{held_of}

-- ---- register

-- the tallies of a registration
abbrev pub put_out : ℕ → Tallies
put_out n = record { evicted = n; aged_out = 0; consumed = 0 }

-- what the work on a sound store answers and leaves, for a port that counts from 0
unfoldable pub taking_answer : List ℕ → ℕ → AnnounceMessage → Result Tallies Refusal
taking_answer s q a = on_zero (refusal_in s q (held_of a)) (Ok (put_out (evicted_in s q (held_of a)))) refused

unfoldable pub taking_exit : List ℕ → ℕ → AnnounceMessage → List ℕ
taking_exit s q a = on_zero (refusal_in s q (held_of a)) (registered_in s q (held_of a)) (λ _. s)

-- ---- age

-- the tallies of an ageing
abbrev pub gone : ℕ → Tallies
gone n = record { evicted = 0; aged_out = n; consumed = 0 }
