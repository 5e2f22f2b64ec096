-- `read` goes by the number of words.
use mathlib.Core.Path.{◌∙◌}
use borrow.Author.Tests.{ne_eqb}
use Rattle.plan_text.specs.Entry.{entry}
use Rattle.plan_text.proofs.read.Goals as goal

pub returns-in-0 : goal.returns-in-0
unfolding entry
returns-in-0 c = simp c.in-0.is

pub returns-in-2 : goal.returns-in-2
unfolding entry
returns-in-2 c = c.two.ensures ∙ simp c.in-2.is

pub returns-in_default : goal.returns-in_default
unfolding entry
returns-in_default c = simp (ne_eqb _ _ c.in_default.in_default-own.rest.0.1, ne_eqb _ _ c.in_default.in_default-own.rest.1)
