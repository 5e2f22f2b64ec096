-- By the category of the balise.
-- Assumes nothing.
use mathlib.Core.Path.{◌≡◌}
use mathlib.Core.Logic.{⊎_elim, inl, inr}
use borrow.Author.Tests.{ne_eqb}
use Rattle.group_rows.proofs.tails.is_three_five_seven.Goals as goal

pub returns-in-3 : goal.returns-in-3
returns-in-3 c =
    ⊎_elim (λ (e : c.in-Figures.x ≡ 3). rw (c.in-Figures.is, e))
    (⊎_elim (λ (e : c.in-Figures.x ≡ 5). rw (c.in-Figures.is, e)) (λ (e : c.in-Figures.x ≡ 7). rw (c.in-Figures.is, e)))
    c.in-3.is

pub returns-in_default : goal.returns-in_default
returns-in_default c =
    let r = c.in_default.in_default-own.rest.1 in
    simp (c.in-Figures.is, ne_eqb c.in-Figures.x 3 (λ e. r (inl e)), ne_eqb c.in-Figures.x 5 (λ e. r (inr (inl e))), ne_eqb c.in-Figures.x 7 (λ e. r (inr (inr e))))
