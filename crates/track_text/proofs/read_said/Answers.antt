-- `read_said` goes by what was said.
use mathlib.Core.Path.{sym, ap, ◌∙◌}
use Rattle.track_text.specs.Read.{read_said}
use Rattle.track_text.proofs.read_said.Goals as goal

pub returns-in-Thing : goal.returns-in-Thing
returns-in-Thing c = c.thing_at.ensures ∙ ap read_said (sym c.in-Thing.is)
