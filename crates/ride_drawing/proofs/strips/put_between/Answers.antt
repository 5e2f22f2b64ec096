-- By how many kilometres there are between.
-- Assumes nothing.
use borrow.Author.Tests.{lt-ltb, le-ltb}
use Rattle.text.specs.Put.{put}
use Rattle.text.proofs.Putting.{then, alone}
use Rattle.text.specs.Pieces.{puts}
use Rattle.ride_drawing.specs.Strip.{between}
use Rattle.ride_drawing.proofs.strips.put_between.Goals as goal

pub returns-then-n-le1 : goal.returns-then-n-le1
unfolding between puts
returns-then-n-le1 c = simp (le-ltb _ _ c.if-n-le1.true)

pub returns : goal.returns
unfolding between
returns c =
    simp (lt-ltb _ _ c.if-n-le1.false) (then _ _ _ _ c.put_number-a.ensures (alone _ _ _ c.put.ensures))
