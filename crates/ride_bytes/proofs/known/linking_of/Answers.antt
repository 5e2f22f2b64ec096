-- By the size of its distance.
-- Assumes nothing.
use borrow.Author.Tests.{lt-ltb, le-ltb}
use Rattle.ride_bytes.specs.Things.{linking_of}
use Rattle.ride_bytes.proofs.known.linking_of.Goals as goal

pub returns-then-distance-lt4294967296 : goal.returns-then-distance-lt4294967296
unfolding linking_of
returns-then-distance-lt4294967296 c = rw (lt-ltb _ _ c.if-distance-lt4294967296.true, c.low32.ensures)

pub returns : goal.returns
unfolding linking_of
returns c = rw (le-ltb _ _ c.if-distance-lt4294967296.false)
