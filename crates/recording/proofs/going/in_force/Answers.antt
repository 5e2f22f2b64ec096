-- `in_force` holds what asking gives, and else nothing.
-- Assumes nothing.
use mathlib.Core.Path.{sym, ap, ◌∙◌}
use Rattle.settings.specs.At.{hold}
use Rattle.settings.specs.Says.{says_asked}
use Rattle.recording.specs.Recording.{held_at}
use Rattle.recording.proofs.going.in_force.Goals as goal

pub returns-in-Ok : goal.returns-in-Ok
unfolding held_at hold
returns-in-Ok c =
    let answer = sym c.at-asked.ensures ∙ ap says_asked c.in-Ok.is in
    rw answer

pub returns-in-Err : goal.returns-in-Err
unfolding held_at hold
returns-in-Err c =
    let answer = sym c.at-asked.ensures ∙ ap says_asked c.in-Err.is in
    rw answer c.none_held.ensures
