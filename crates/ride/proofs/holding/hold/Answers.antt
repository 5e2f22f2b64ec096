-- `hold` takes what asking gives, and else stays.
use mathlib.Core.Path.{sym, ap, ◌∙◌}
use Rattle.settings.specs.At.{hold}
use Rattle.settings.specs.Says.{says_asked}
use Rattle.ride.proofs.holding.hold.Goals as goal

pub returns-in-Ok : goal.returns-in-Ok
unfolding hold
returns-in-Ok c =
    let answer = sym c.at-asked.ensures ∙ ap says_asked c.in-Ok.is in
    rw answer

pub returns-in-Err : goal.returns-in-Err
unfolding hold
returns-in-Err c =
    let answer = sym c.at-asked.ensures ∙ ap says_asked c.in-Err.is in
    rw answer
