-- By the category of the balise.
-- Assumes nothing.
use mathlib.Core.Path.{◌∙◌}
use borrow.Author.Tests.{ne_eqb}
use Rattle.group_rows.proofs.before.after_number.Goals as goal

pub returns-in-8 : goal.returns-in-8
returns-in-8 c = c.to.ensures ∙ rw (c.in-Figures.is, c.in-8.is)

pub returns-in-14 : goal.returns-in-14
returns-in-14 c = c.to-in-14.ensures ∙ rw (c.in-Figures.is, c.in-14.is)

pub returns-in-9 : goal.returns-in-9
returns-in-9 c = c.to-in-9.ensures ∙ rw (c.in-Figures.is, c.in-9.is)

pub returns-in_default : goal.returns-in_default
returns-in_default c =
    let r = c.in_default.in_default-own.rest in
    simp (c.in-Figures.is, ne_eqb c.in-Figures.x 9 r.1, ne_eqb c.in-Figures.x 14 r.0.1, ne_eqb c.in-Figures.x 8 r.0.0.1) (simp c.in-Figures.is at c.after_both.ensures)

pub returns-in-Marker : goal.returns-in-Marker
returns-in-Marker c = c.to-in-Marker.ensures ∙ rw c.in-Marker.is
