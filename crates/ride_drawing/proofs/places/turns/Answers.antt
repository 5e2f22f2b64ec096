-- By the line.
-- Assumes nothing.
use mathlib.Core.Path.{sym, ap, ◌∙◌}
use Rattle.ride_drawing.specs.Drawing.{turns}
use Rattle.ride_drawing.proofs.places.turns.Goals as goal

pub returns-in-Group : goal.returns-in-Group
returns-in-Group c =
    c.seen_turns.ensures ∙ ap turns (sym c.in-Group.is)
