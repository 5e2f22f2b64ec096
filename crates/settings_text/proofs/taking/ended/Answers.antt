-- `ended` looks whether there is a version.
use mathlib.Core.Path.{◌∙◌}
use borrow.Author.Tests.{eq-eqb, ne_eqb}
use Rattle.settings_text.specs.Sheet.{ended}
use Rattle.settings_text.proofs.taking.ended.Goals as goal

pub returns-then-store-eq0 : goal.returns-then-store-eq0
unfolding ended
returns-then-store-eq0 c = c.bad.ensures ∙ simp (eq-eqb _ _ c.if-store-eq0.true)

pub returns : goal.returns
unfolding ended
returns c = simp (ne_eqb _ _ c.if-store-eq0.false)
