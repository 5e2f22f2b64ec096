-- The metres, and then the decimal.
-- Assumes nothing.
use Rattle.text.proofs.Putting.{then, alone}
use Rattle.ride_drawing.proofs.spans.put_metres.Goals as goal

pub returns : goal.returns
returns c =
    then _ _ _ _ c.put_number-a.ensures (alone _ _ _ c.put_number.ensures)
