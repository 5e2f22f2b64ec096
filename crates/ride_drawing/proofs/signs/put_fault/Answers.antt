-- The pieces in their order.
-- Assumes nothing.
use Rattle.text.specs.Put.{put}
use Rattle.text.proofs.Putting.{then, alone, after}
use Rattle.ride_drawing.specs.Sign.{label}
use Rattle.ride_drawing.proofs.signs.put_fault.Goals as goal

pub returns : goal.returns
unfolding label
returns c =
    after _ _ _ _ c.put_metres-a.ensures
    (then _ _ _ _ c.put_number-b.ensures
    (then _ _ _ _ c.put_number-c.ensures (after _ _ _ _ c.put_place-d.ensures (alone _ _ _ c.put.ensures))))
