-- The pieces in their order.
-- Assumes nothing.
use Rattle.text.specs.Put.{put}
use Rattle.text.proofs.Putting.{then, alone, after}
use Rattle.ride_drawing.proofs.rows.put_row_number.Goals as goal

pub returns : goal.returns
returns c =
    after _ _ _ _ c.put_metres-a.ensures (then _ _ _ _ c.put_number-b.ensures (alone _ _ _ c.put.ensures))
