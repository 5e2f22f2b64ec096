-- `kind_of` goes by the name.
use mathlib.Core.Path.{sym, ap}
use Rattle.plan_text.specs.Entry.{kind_of}
use Rattle.plan_text.proofs.kind_of.Goals as goal

pub returns-in-Signal : goal.returns-in-Signal
returns-in-Signal c = ap kind_of (sym c.in-Signal.is)

pub returns-in-Warning : goal.returns-in-Warning
returns-in-Warning c = ap kind_of (sym c.in-Warning.is)

pub returns-in-Annulled : goal.returns-in-Annulled
returns-in-Annulled c = ap kind_of (sym c.in-Annulled.is)

pub returns-in-Line : goal.returns-in-Line
returns-in-Line c = ap kind_of (sym c.in-Line.is)

pub returns-in-Route : goal.returns-in-Route
returns-in-Route c = ap kind_of (sym c.in-Route.is)
