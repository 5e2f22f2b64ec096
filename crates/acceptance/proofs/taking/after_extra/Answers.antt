-- One group more is extra.
-- Assumes nothing.
use Rattle.acceptance.specs.Taking.{after_extra}
use Rattle.acceptance.proofs.taking.after_extra.Goals as goal

pub returns : goal.returns
unfolding after_extra
returns c = rw c.one_more.ensures
