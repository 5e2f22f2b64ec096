-- The pieces in their order.
-- Assumes nothing.
use Rattle.text.specs.Put.{put}
use Rattle.text.proofs.Putting.{then, alone, after}
use Rattle.ride_drawing.specs.Ticks.{on_the_ticks}
use Rattle.ride_drawing.proofs.ticks.put_tick.Goals as goal

pub returns : goal.returns
unfolding on_the_ticks
returns c =
    then _ _ _ _ c.put_number-a.ensures (then _ _ _ _ c.put-b.ensures (after _ _ _ _ c.put_sign-c.ensures (alone _ _ _ c.put.ensures)))
