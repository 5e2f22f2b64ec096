-- The pen at the line, and up to where what was known is drawn.
-- Assumes nothing.
use Rattle.ride_drawing.proofs.Cases.{after_is}
use Rattle.ride_drawing.specs.Drawing.{reached}
use Rattle.ride_drawing.proofs.places.after_line.Goals as goal

pub returns : goal.returns
returns c =
    let a = c.args in
    after_is a.pen a.line a.odometer c.place_of-place.result c.reached.result c.arrive-there.result c.place_of-place.ensures c.arrive-there.ensures c.reached.ensures
