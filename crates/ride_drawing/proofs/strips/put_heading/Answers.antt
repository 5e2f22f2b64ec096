-- The pieces in their order.
-- Assumes nothing.
use Rattle.text.specs.Put.{put}
use Rattle.text.proofs.Putting.{then, alone, after}
use Rattle.ride_drawing.specs.Strip.{heading}
use Rattle.ride_drawing.proofs.strips.put_heading.Goals as goal

pub returns : goal.returns
unfolding heading
returns c =
    then _ _ _ _ c.put_number-a.ensures (then _ _ _ _ c.put-b.ensures (after _ _ _ _ c.put_figures-c.ensures (alone _ _ _ c.put.ensures)))
