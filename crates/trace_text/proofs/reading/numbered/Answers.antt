-- `numbered` reads both figures, and compares the first with 12.
use mathlib.Core.Path.{sym, ◌∙◌}
use native.Mathlib.Omega.{arith}
use borrow.Author.Tests.{eq-eqb, ne_eqb}
use Rattle.trace_text.specs.Said.{numbered}
use Rattle.trace_text.proofs.Figures.{no_larger}
use Rattle.trace_text.proofs.reading.numbered.Goals as goal

pub returns-in_default : goal.returns-in_default
unfolding numbered
returns-in_default c = simp (sym c.figure_of.ensures ∙ c.in_default.is)

pub returns-in_default-figure_of : goal.returns-in_default-figure_of
unfolding numbered
returns-in_default-figure_of c = simp (sym c.figure_of.ensures ∙ c.in-Some.is, sym c.figure_of-2.ensures ∙ c.in_default-figure_of.is)

pub returns-then-x-ne12 : goal.returns-then-x-ne12
unfolding numbered
returns-then-x-ne12 c = simp (sym c.figure_of.ensures ∙ c.in-Some.is, sym c.figure_of-2.ensures ∙ c.in-Some-figure_of.is, ne_eqb _ _ c.if-x-ne12.true)

pub overflow_cast-result : goal.overflow_cast-result
overflow_cast-result c = omega (arith, no_larger _ _ _ (sym c.figure_of-2.ensures ∙ c.in-Some-figure_of.is))

pub returns : goal.returns
unfolding numbered
returns c = simp (sym c.figure_of.ensures ∙ c.in-Some.is, sym c.figure_of-2.ensures ∙ c.in-Some-figure_of.is, eq-eqb _ _ c.if-x-ne12.false)
