-- By what is told of the two.
-- Assumes nothing.
use mathlib.Core.Path.{sym, ap₂}
use Rattle.ride_drawing.specs.Span.{is_rising}
use Rattle.ride_drawing.proofs.spans.is_rising.Goals as goal

pub returns-in-Kmh-target : goal.returns-in-Kmh-target
returns-in-Kmh-target c = ap₂ is_rising (sym c.in-Kmh.is) (sym c.in-Kmh-target.is)
