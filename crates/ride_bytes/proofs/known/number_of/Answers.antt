-- By its size.
-- Assumes nothing.
use borrow.Author.Tests.{lt-ltb, le-ltb}
use Rattle.ride_bytes.specs.Things.{number_of}
use Rattle.ride_bytes.proofs.known.number_of.Goals as goal

pub returns-then-figure-lt65536 : goal.returns-then-figure-lt65536
unfolding number_of
returns-then-figure-lt65536 c = rw (lt-ltb _ _ c.if-figure-lt65536.true)

pub returns : goal.returns
unfolding number_of
returns c = rw (le-ltb _ _ c.if-figure-lt65536.false)
