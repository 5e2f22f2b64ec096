-- By the category of the balise.
-- Assumes nothing.
use mathlib.Core.Path.{◌≡◌, ◌∙◌}
use mathlib.Core.Logic.{⊎_elim, inl, inr}
use borrow.Author.Tests.{ne_eqb}
use Rattle.group_rows.proofs.before.after_nine.Goals as goal

pub returns-in-1 : goal.returns-in-1
returns-in-1 c =
    c.opposite.ensures
    ∙ ⊎_elim (λ (e : c.in-Figures.x ≡ 1). rw (c.in-Figures.is, e)) (λ (e : c.in-Figures.x ≡ 4). rw (c.in-Figures.is, e)) c.in-1.is

pub returns-in-10 : goal.returns-in-10
returns-in-10 c = c.opposite-in-10.ensures ∙ rw (c.in-Figures.is, c.in-10.is)

pub returns-in-2 : goal.returns-in-2
returns-in-2 c = c.opposite-in-2.ensures ∙ rw (c.in-Figures.is, c.in-2.is)

pub returns-in_default : goal.returns-in_default
returns-in_default c =
    let r = c.in_default.in_default-own.rest in
    simp (c.in-Figures.is, ne_eqb c.in-Figures.x 2 r.1, ne_eqb c.in-Figures.x 10 r.0.1, ne_eqb c.in-Figures.x 1 (λ e. r.0.0.1 (inl e)), ne_eqb c.in-Figures.x 4 (λ e. r.0.0.1 (inr e)))
