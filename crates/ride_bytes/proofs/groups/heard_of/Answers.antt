-- By its size.
-- Assumes nothing.
use borrow.Author.Tests.{lt-ltb, le-ltb, eq-eqb, ne_eqb}
use Rattle.ride_bytes.specs.Things.{heard_of}
use Rattle.ride_bytes.proofs.groups.heard_of.Goals as goal

pub returns-then-figure-lt16777216 : goal.returns-then-figure-lt16777216
unfolding heard_of
returns-then-figure-lt16777216 c = rw (lt-ltb _ _ c.if-figure-lt16777216.true, c.low8.ensures)

pub returns-then-figure-eq16777216 : goal.returns-then-figure-eq16777216
unfolding heard_of
returns-then-figure-eq16777216 c = rw (le-ltb _ _ c.if-figure-lt16777216.false, eq-eqb _ _ c.if-figure-eq16777216.true)

pub returns : goal.returns
unfolding heard_of
returns c = rw (le-ltb _ _ c.if-figure-lt16777216.false, ne_eqb _ _ c.if-figure-eq16777216.false)
