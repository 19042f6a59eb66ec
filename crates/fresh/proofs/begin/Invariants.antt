-- `fresh::begin` meets its contract. Assumes nothing.
use mathlib.Core.Path.{◌≡◌}
use Rattle.wire.specs.Be.{put}
use Rattle.book.specs.Below.{tab}
use Rattle.fresh.specs.Fresh.{site_with, fresh_word}
use Rattle.fresh.proofs.begin.Given as goal

abbrev pub invariant-loop-w : goal.invariant-loop-w
invariant-loop-w l = l.store ≡ put l.initial.store 0 (tab l.w (fresh_word (site_with l.own l.any l.listed) l.intervals))
