-- A record that is made, or one of kind 2.
-- Assumes nothing.
use mathlib.Core.Path.{sym, ap, ◌∙◌}
use Rattle.recorder.specs.Says.{says_recorded}
use Rattle.recording.specs.Kept.{or_unreadable}
use Rattle.recording.proofs.kept.information.Goals as goal

pub returns-in-Ok : goal.returns-in-Ok
returns-in-Ok c = ap (or_unreadable c.args.odometer) (sym (ap says_recorded c.in-Ok.is) ∙ c.record_of.ensures)

pub returns-in-Err : goal.returns-in-Err
returns-in-Err c = c.blank_at.ensures ∙ ap (or_unreadable c.args.odometer) (sym (ap says_recorded c.in-Err.is) ∙ c.record_of.ensures)
