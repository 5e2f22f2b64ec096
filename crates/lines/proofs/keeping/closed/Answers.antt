-- `closed` keeps the word that was being read, if there was one.
use borrow.Author.Tests.{eq-eqb, ne_eqb}
use mathlib.Core.Path.{ap, ◌∙◌}
use Rattle.lines.specs.Words.{kept}
use Rattle.lines.specs.Reading.{closed}
use Rattle.lines.proofs.keeping.closed.Goals as goal

pub returns-then-word-eq0 : goal.returns-then-word-eq0
unfolding closed
returns-then-word-eq0 c = simp (eq-eqb _ _ c.if-word-eq0.true)

pub returns : goal.returns
unfolding closed
returns c = let a = c.args in c.kept.ensures ∙ ap (kept a.line) c.done.ensures ∙ simp (ne_eqb _ _ c.if-word-eq0.false)
