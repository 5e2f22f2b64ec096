-- By the line.
-- Assumes nothing.
use mathlib.Core.Path.{sym, ap, ◌∙◌}
use Rattle.ride_drawing.specs.Sign.{shape}
use Rattle.ride_drawing.proofs.signs.shape.Goals as goal

pub returns-in-Group : goal.returns-in-Group
returns-in-Group c =
    c.seen_shape.ensures ∙ ap shape (sym c.in-Group.is)
