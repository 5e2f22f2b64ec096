-- `read_line` goes by the number of words.
use mathlib.Core.Path.{◌∙◌}
use borrow.Author.Tests.{ne_eqb}
use Rattle.settings_text.specs.Line.{stated}
use Rattle.settings_text.proofs.line.read_line.Goals as goal

pub returns-in-0 : goal.returns-in-0
unfolding stated
returns-in-0 c = simp c.in-0.is

pub returns-in-4 : goal.returns-in-4
unfolding stated
returns-in-4 c = c.four.ensures ∙ simp c.in-4.is

pub returns-in_default : goal.returns-in_default
unfolding stated
returns-in_default c = simp (ne_eqb _ _ c.in_default.in_default-own.rest.0.1, ne_eqb _ _ c.in_default.in_default-own.rest.1)
