-- `record_of` goes by what lies there.
use mathlib.Core.Path.{◌∙◌}
use Rattle.trace_text.specs.Record.{record_of_meant}
use Rattle.trace_text.proofs.record_of.Goals as goal

pub returns-in-Balise : goal.returns-in-Balise
unfolding record_of_meant
returns-in-Balise c = c.balise.ensures ∙ simp c.in-Balise.is

pub returns-in-Marker : goal.returns-in-Marker
unfolding record_of_meant
returns-in-Marker c = c.made.ensures ∙ simp c.in-Marker.is

pub returns-in-Unreadable : goal.returns-in-Unreadable
unfolding record_of_meant
returns-in-Unreadable c = c.made-in-Unreadable.ensures ∙ simp c.in-Unreadable.is

pub returns-in-Position : goal.returns-in-Position
unfolding record_of_meant
returns-in-Position c = c.made-in-Position.ensures ∙ simp c.in-Position.is

pub returns-in-Raw : goal.returns-in-Raw
unfolding record_of_meant
returns-in-Raw c = c.made-in-Raw.ensures ∙ simp c.in-Raw.is
