-- A number reads back: it has sixteen bits.
-- Assumes nothing.
use mathlib.Core.Path.{sym, ap, ◌∙◌}
use native.Mathlib.Omega.{arith}
use Rattle.ride_bytes.specs.Things.{number_figure, number_of}
use Rattle.ride_bytes.proofs.Back.{number_back}
use Rattle.ride_bytes.proofs.known.number_figure.Goals as goal

pub returns-in-None : goal.returns-in-None
unfolding number_of
returns-in-None c = (ap number_figure (sym c.in-None.is), sym c.in-None.is)

pub returns-in-Figure : goal.returns-in-Figure
returns-in-Figure c = (ap number_figure (sym c.in-Figure.is), number_back c.in-Figure.n (omega arith) ∙ sym c.in-Figure.is)
