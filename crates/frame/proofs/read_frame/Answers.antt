-- `frame::read_frame` meets its contract: where no check refuses, the bytes are there, and all is read.
-- Assumes nothing.
use Rattle.std.proofs.Common.{ℕ, ◌≡◌, ◌≤◌, List, length, sym, arith}
use Rattle.std.proofs.lemmas.Result.{err_from_is_err_and}
use Rattle.frame.specs.Frame.{frame_refusal}
use Rattle.frame.proofs.Laws.{frame_passed, read-refused, read_done}
use Rattle.frame.proofs.read_frame.Goals as goal

-- past the checks there are header and content
there : (s : List ℕ) → 0 ≡ frame_refusal s → 64 ≤ length s
there s e = let p = (frame_passed s (sym e)).front in omega (arith, p.long, p.there)

pub returns-in_err-frame_refusal : goal.returns-in_err-frame_refusal
returns-in_err-frame_refusal c =
    let p = err_from_is_err_and c.from_residual.result c.from_residual.ensures.1 in
    rw (p.1, p.2) (read-refused c.args.s.now _ (sym c.in_err-frame_refusal.ensures))

pub header_at-header-requires : goal.header_at-header-requires
header_at-header-requires c = omega (arith, there c.args.s.now c.in_ok-frame_refusal.ensures)

pub content_at-requires : goal.content_at-requires
content_at-requires c = there c.args.s.now c.in_ok-frame_refusal.ensures

pub u16_at-requires : goal.u16_at-requires
u16_at-requires c = omega (arith, there c.args.s.now c.in_ok-frame_refusal.ensures)

pub returns : goal.returns
returns c = rw (c.u16_at.ensures, c.content_at.ensures, c.header_at-header.ensures) (read_done c.args.s.now (sym c.in_ok-frame_refusal.ensures))
