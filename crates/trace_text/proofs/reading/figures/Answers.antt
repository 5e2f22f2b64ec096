-- `figures` reads the three figures, and compares the first with 12.
use mathlib.Core.Path.{sym, ◌∙◌}
use native.Mathlib.Omega.{arith}
use borrow.Author.Tests.{eq-eqb, ne_eqb}
use Rattle.trace_text.specs.Said.{figures}
use Rattle.trace_text.proofs.Figures.{no_larger}
use Rattle.trace_text.proofs.reading.figures.Goals as goal

pub returns-in_default : goal.returns-in_default
unfolding figures
returns-in_default c = simp (sym c.figure_of.ensures ∙ c.in_default.is)

pub returns-in_default-figure_of : goal.returns-in_default-figure_of
unfolding figures
returns-in_default-figure_of c = simp (sym c.figure_of.ensures ∙ c.in-Some.is, sym c.figure_of-2.ensures ∙ c.in_default-figure_of.is)

pub returns-in_default-figure_of-2 : goal.returns-in_default-figure_of-2
unfolding figures
returns-in_default-figure_of-2 c = simp (sym c.figure_of.ensures ∙ c.in-Some.is, sym c.figure_of-2.ensures ∙ c.in-Some-figure_of.is, sym c.figure_of-3.ensures ∙ c.in_default-figure_of-2.is)

pub returns-then-x-eq12 : goal.returns-then-x-eq12
unfolding figures
returns-then-x-eq12 c = simp (sym c.figure_of.ensures ∙ c.in-Some.is, sym c.figure_of-2.ensures ∙ c.in-Some-figure_of.is, sym c.figure_of-3.ensures ∙ c.in-Some-figure_of-2.is, eq-eqb _ _ c.if-x-eq12.true)

pub overflow_cast-result : goal.overflow_cast-result
overflow_cast-result c = omega (arith, no_larger _ _ _ (sym c.figure_of.ensures ∙ c.in-Some.is))

pub overflow_cast-result-2 : goal.overflow_cast-result-2
overflow_cast-result-2 c = omega (arith, no_larger _ _ _ (sym c.figure_of-2.ensures ∙ c.in-Some-figure_of.is))

pub overflow_cast-result-3 : goal.overflow_cast-result-3
overflow_cast-result-3 c = omega (arith, no_larger _ _ _ (sym c.figure_of-3.ensures ∙ c.in-Some-figure_of-2.is))

pub returns : goal.returns
unfolding figures
returns c = simp (sym c.figure_of.ensures ∙ c.in-Some.is, sym c.figure_of-2.ensures ∙ c.in-Some-figure_of.is, sym c.figure_of-3.ensures ∙ c.in-Some-figure_of-2.is, ne_eqb _ _ c.if-x-eq12.false)
