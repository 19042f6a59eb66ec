-- `stays::stays_far` meets its contract. Assumes nothing.
use Rattle.stays.proofs.stays_far.Goals as goal

pub returns : goal.returns
returns c =
    rw (
      c.lower2.ensures,
      c.grandmaster_at-y.ensures,
      c.high_at-x.ensures,
      c.grandmaster_at-b.ensures,
      c.high_at-a.ensures,
    )
