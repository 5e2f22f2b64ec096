-- `thing_of` goes by the kind and by whether there are words.
use mathlib.Core.Path.{◌∙◌}
use borrow.Author.Tests.{eq-eqb, ne_eqb}
use Rattle.trace_text.specs.Thing.{thing_of}
use Rattle.trace_text.proofs.things.thing_of.Goals as goal

pub returns-then-kind-eq0 : goal.returns-then-kind-eq0
unfolding thing_of
returns-then-kind-eq0 c = c.information.ensures ∙ simp (eq-eqb _ _ c.if-kind-eq0.true)

pub returns-then-x-y : goal.returns-then-x-y
unfolding thing_of
returns-then-x-y c = c.blank.ensures ∙ simp (ne_eqb _ _ c.if-kind-eq0.false, c.if-x-y.true)

pub returns : goal.returns
unfolding thing_of
returns c = simp (ne_eqb _ _ c.if-kind-eq0.false, c.if-x-y.false)
