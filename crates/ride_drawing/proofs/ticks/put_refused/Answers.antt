-- On the open strip, or in the row.
-- Assumes nothing.
use Rattle.text.specs.Put.{put}
use Rattle.text.proofs.Putting.{then, alone, after}
use Rattle.ride_drawing.specs.Ticks.{in_the_row, on_the_ticks, draw_refused}
use Rattle.ride_drawing.proofs.ticks.put_refused.Goals as goal

pub returns-then-pen : goal.returns-then-pen
unfolding draw_refused on_the_ticks
returns-then-pen c =
    rw c.if-pen.true c.put_tick.ensures

pub returns : goal.returns
unfolding draw_refused in_the_row
returns c =
    rw c.if-pen.false (then _ _ _ _ c.put-a.ensures (after _ _ _ _ c.put_sign-b.ensures (alone _ _ _ c.put.ensures)))
