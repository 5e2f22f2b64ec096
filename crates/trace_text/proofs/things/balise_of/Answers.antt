-- `balise_of` goes by the telegram.
use mathlib.Core.Path.{sym, ap}
use Rattle.trace_text.specs.Thing.{balise_of}
use Rattle.trace_text.proofs.things.balise_of.Goals as goal

pub returns-in-Figures : goal.returns-in-Figures
returns-in-Figures c = ap balise_of (sym c.in-Figures.is)

pub returns-in-Number : goal.returns-in-Number
returns-in-Number c = ap balise_of (sym c.in-Number.is)
