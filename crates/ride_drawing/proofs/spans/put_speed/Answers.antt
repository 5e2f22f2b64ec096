-- The pieces in their order.
-- Assumes nothing.
use mathlib.Core.List.{◌++◌}
use mathlib.Core.Path.{ap}
use Prim.Native.Nat.{ℕ}
use Rattle.text.specs.Put.{put}
use Rattle.text.specs.Text.{codes, decimal}
use Rattle.text.proofs.Putting.{then, alone, after, word_as}
use Rattle.ride_drawing.specs.Span.{speed_line}
use Rattle.ride_drawing.proofs.spans.put_speed.Goals as goal

pub returns : goal.returns
unfolding speed_line
returns c =
    after _ _ _ _ c.put_metres-a.ensures
    (then _ _ _ _ (word_as _ _ (ap (λ (v : ℕ). codes " " ++ decimal v) c.height.ensures) c.put_number-b.ensures)
    (after _ _ _ _ c.put_metres-c.ensures (then _ _ _ _ c.put_number-d.ensures (alone _ _ _ c.put.ensures))))
