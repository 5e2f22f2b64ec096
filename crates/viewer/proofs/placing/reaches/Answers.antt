-- `reaches` goes by what the check says, and compares.
use Rattle.std.specs.Prelude.{Result}
use mathlib.Core.Path.{ap, sym}
use Rattle.ride.specs.declared.Checked.{Checked}
use Rattle.ride.specs.declared.Wrong.{Wrong}
use Rattle.ride.specs.Says.{says_checked}
use Rattle.viewer.specs.Going.{reaches}
use Rattle.viewer.proofs.placing.reaches.Goals as goal

pub returns-in-Ok : goal.returns-in-Ok
returns-in-Ok c =
    ap (λ (x : Result Checked Wrong). reaches c.args.place (says_checked x)) (sym c.in-Ok.is)
