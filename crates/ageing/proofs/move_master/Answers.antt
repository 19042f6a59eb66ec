-- `ageing::move_master` meets its contract: a copy of a whole block is the block put. Assumes nothing.
use Rattle.std.proofs.Common.{◌≡◌, ◌+◌, ◌-◌, drop, ap, ◌∙◌, arith}
use lib.Seq.{paste}
use Rattle.book.specs.Layout.{master_words, master_at}
use Rattle.ageing.specs.AgeLaws.{paste-put}
use Rattle.ageing.proofs.move_master.Goals as goal

pub returns : goal.returns
returns c =
    let p = c.args.port.now in
    let to = master_at c.args.to in
    let from = master_at c.args.from in
    let e : from + master_words - from ≡ master_words = omega arith in
    c.copy_within.ensures.after ∙ ap (paste p to (drop from p)) e ∙ paste-put p to from master_words (omega arith)
