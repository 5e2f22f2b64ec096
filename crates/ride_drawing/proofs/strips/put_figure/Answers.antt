-- The pieces in their order.
-- Assumes nothing.
use Rattle.text.specs.Put.{put}
use Rattle.text.proofs.Putting.{then, alone}
use Rattle.ride_drawing.specs.Strip.{figure}
use Rattle.ride_drawing.proofs.strips.put_figure.Goals as goal

pub returns : goal.returns
unfolding figure
returns c =
    then _ _ _ _ c.put_number-a.ensures (then _ _ _ _ c.put_number-b.ensures (then _ _ _ _ c.put_number-c.ensures (alone _ _ _ c.put.ensures)))
