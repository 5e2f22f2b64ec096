-- A place not below the entry's less the tolerance, and not above it and the tolerance.
-- Assumes nothing.
use Rattle.acceptance.proofs.Walks.{below}
use Rattle.acceptance.proofs.taking.within.Goals as goal

pub returns : goal.returns
returns c =
    let a = c.args in
    rw (c.less.ensures, below a.entry a.tolerance a.place)
