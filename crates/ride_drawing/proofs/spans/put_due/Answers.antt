-- The band, where it has a length.
-- Assumes nothing.
use borrow.Author.Tests.{lt-ltb, le-ltb}
use Rattle.text.specs.Put.{put}
use Rattle.text.proofs.Putting.{alone, after}
use Rattle.text.specs.Pieces.{puts}
use Rattle.ride_drawing.specs.Span.{due}
use Rattle.ride_drawing.proofs.spans.put_due.Goals as goal

pub returns-then-l-r : goal.returns-then-l-r
unfolding due puts
returns-then-l-r c = simp (le-ltb _ _ c.if-l-r.true)

pub returns : goal.returns
unfolding due
returns c =
    simp (lt-ltb _ _ c.if-l-r.false) (after _ _ _ _ c.put_metres-a.ensures (after _ _ _ _ c.put_metres-b.ensures (alone _ _ _ c.put.ensures)))
