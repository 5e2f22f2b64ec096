-- `named` goes by the name.
use mathlib.Core.Path.{sym, ap}
use Rattle.trace_text.specs.Said.{named}
use Rattle.trace_text.proofs.reading.named.Goals as goal

pub returns-in-Marker : goal.returns-in-Marker
returns-in-Marker c = ap named (sym c.in-Marker.is)

pub returns-in-Unreadable : goal.returns-in-Unreadable
returns-in-Unreadable c = ap named (sym c.in-Unreadable.is)

pub returns-in-Position : goal.returns-in-Position
returns-in-Position c = ap named (sym c.in-Position.is)
