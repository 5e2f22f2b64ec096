-- The pieces in their order.
-- Assumes nothing.
use mathlib.Core.Path.{ap}
use Rattle.text.specs.Put.{put}
use Rattle.text.specs.Text.{codes}
use Rattle.text.proofs.Putting.{then, alone, after, all_as}
use Rattle.ride_drawing.specs.Metres.{metres}
use Rattle.ride_drawing.specs.Row.{extra_sign}
use Rattle.ride_drawing.proofs.rows.put_extra_sign.Goals as goal

pub returns : goal.returns
unfolding extra_sign
returns c =
    then _ _ _ _ c.put_number-a.ensures
    (then _ _ _ _ c.put_kind-b.ensures
    (then _ _ _ _ c.put-c.ensures
    (after _ _ _ _ (all_as _ _ (ap (metres (codes "' x='")) c.on_strip.ensures) c.put_metres-d.ensures) (alone _ _ _ c.put.ensures))))
