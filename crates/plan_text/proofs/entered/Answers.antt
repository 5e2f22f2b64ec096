-- `entered` goes by whether there is a kind.
use mathlib.Core.Path.{sym, ap}
use Rattle.plan_text.specs.Entry.{entered}
use Rattle.plan_text.proofs.entered.Goals as goal

pub returns-in-Some : goal.returns-in-Some
returns-in-Some c = ap (entered c.args.place) (sym c.in-Some.is)
