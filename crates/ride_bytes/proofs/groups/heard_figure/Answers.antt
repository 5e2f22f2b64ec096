-- What was heard reads back: words have eight bits.
-- Assumes nothing.
use mathlib.Core.Path.{sym, ap, ◌∙◌}
use native.Mathlib.Omega.{arith}
use Rattle.ride_bytes.specs.Things.{heard_figure, heard_of}
use Rattle.ride_bytes.proofs.Back.{heard_back}
use Rattle.ride_bytes.proofs.groups.heard_figure.Goals as goal

pub returns-in-Words : goal.returns-in-Words
returns-in-Words c =
    (ap heard_figure (sym c.in-Words.is), heard_back c.in-Words.x c.in-Words.y c.in-Words.z (omega arith) (omega arith) (omega arith) ∙ sym c.in-Words.is)

pub returns-in-Marker : goal.returns-in-Marker
unfolding heard_of
returns-in-Marker c = (ap heard_figure (sym c.in-Marker.is), sym c.in-Marker.is)

pub returns-in-Unreadable : goal.returns-in-Unreadable
unfolding heard_of
returns-in-Unreadable c = (ap heard_figure (sym c.in-Unreadable.is), sym c.in-Unreadable.is)
