-- `pass` keeps the state before the record at its place in the ring.
use Rattle.viewer.specs.Stand.{passed}
use Rattle.viewer.proofs.moving.pass.Goals as goal

pub returns : goal.returns
unfolding passed
returns c = simp c.one_more.ensures
