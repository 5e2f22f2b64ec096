-- A speed reads back: it has sixteen bits.
-- Assumes nothing.
use mathlib.Core.Path.{sym, ap, ◌∙◌}
use native.Mathlib.Omega.{arith}
use Rattle.ride_bytes.specs.Things.{told_figure, told_of}
use Rattle.ride_bytes.proofs.Back.{told_back}
use Rattle.ride_bytes.proofs.known.told_figure.Goals as goal

pub returns-in-Unknown : goal.returns-in-Unknown
unfolding told_of
returns-in-Unknown c = (ap told_figure (sym c.in-Unknown.is), sym c.in-Unknown.is)

pub returns-in-Kmh : goal.returns-in-Kmh
returns-in-Kmh c = (ap told_figure (sym c.in-Kmh.is), told_back c.in-Kmh.v (omega arith) ∙ sym c.in-Kmh.is)
