-- Each case is its row; that of the places ends it.
-- Assumes nothing.
use mathlib.Core.Path.{sym, ap, subst, ◌∙◌}
use Rattle.ear_bytes.specs.Ears.{stand_figures}
use Rattle.ear_bytes.specs.Sizes.{StandFits}
use Rattle.ear_bytes.proofs.Rows.{of_inside}
use borrow.Author.Rules.{rules}
use Rattle.ear_bytes.proofs.figures.of_stand.Goals as goal

pub returns-in-Outside : goal.returns-in-Outside
returns-in-Outside c = record { value = ap stand_figures (sym c.in-Outside.is); stand_fits = subst StandFits (sym c.in-Outside.is) tt }

pub returns-in-Inside : goal.returns-in-Inside
returns-in-Inside c =
    record { value = of_inside _ _ c.in-Inside.sound c.of_places-p.ensures.value c.as_figure-plain.ensures ∙ ap stand_figures (sym c.in-Inside.is); stand_fits = subst StandFits (sym c.in-Inside.is) (search rules, search rules, c.of_places-p.ensures.places_fit) }
