-- `thing_at` goes by what lies there.
use mathlib.Core.Path.{sym, ap, ◌∙◌}
use Rattle.track_text.specs.Read.{thing_at}
use Rattle.track_text.proofs.thing_at.Goals as goal

pub returns-in-Balise : goal.returns-in-Balise
returns-in-Balise c = c.balise.ensures ∙ ap (thing_at c.args.place) (sym c.in-Balise.is)

pub returns-in-Marker : goal.returns-in-Marker
returns-in-Marker c = ap (thing_at c.args.place) (sym c.in-Marker.is)

pub returns-in-Unreadable : goal.returns-in-Unreadable
returns-in-Unreadable c = ap (thing_at c.args.place) (sym c.in-Unreadable.is)

pub returns-in-Position : goal.returns-in-Position
returns-in-Position c = ap (thing_at c.args.place) (sym c.in-Position.is)
