-- By the kind; the speed of a route board is what its row gives.
-- Assumes nothing.
use mathlib.Core.Path.{◌∙◌}
use Rattle.group.proofs.contents.of_present.Goals as goal

pub returns-in-Signal : goal.returns-in-Signal
returns-in-Signal c = c.of_signal.ensures ∙ rw c.in-Signal.is

pub returns-in-Warning : goal.returns-in-Warning
returns-in-Warning c = c.of_warning.ensures ∙ rw c.in-Warning.is

pub returns-in-Annulled : goal.returns-in-Annulled
returns-in-Annulled c = rw c.in-Annulled.is

pub returns-in-Line : goal.returns-in-Line
returns-in-Line c = rw c.in-Line.is

pub returns-in-Route : goal.returns-in-Route
returns-in-Route c = rw c.in-Route.is
