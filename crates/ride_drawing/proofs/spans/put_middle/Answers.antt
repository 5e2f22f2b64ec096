-- The middle, where it lies there.
-- Assumes nothing.
use Rattle.text.specs.Put.{put}
use Rattle.ride_drawing.proofs.Cases.{middle_drawn, middle_none}
use Rattle.text.proofs.Putting.{alone, after, all_as, none_as}
use Rattle.ride_drawing.proofs.spans.put_middle.Goals as goal

pub returns-then-from-place : goal.returns-then-from-place
returns-then-from-place c =
    let a = c.args in
    all_as _ _ (middle_drawn a.edge a.from a.to a.place c.on_strip-x.result c.on_strip-x.ensures c.if-from-place.true) (after _ _ _ _ c.put_metres-a.ensures (alone _ _ _ c.put.ensures))

pub returns : goal.returns
returns c =
    let a = c.args in
    none_as _ _ (middle_none a.edge a.from a.to a.place c.on_strip-x.result c.on_strip-x.ensures c.if-from-place.false)
