-- `thing` goes by what was read.
use mathlib.Core.Path.{sym, ap}
use Rattle.trace_text.specs.Said.{thing}
use Rattle.trace_text.proofs.thing.Goals as goal

pub returns-in-Some : goal.returns-in-Some
returns-in-Some c = ap (thing c.args.place) (sym c.in-Some.is)
