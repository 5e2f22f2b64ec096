-- By whether there is a 14, and by BZ.
-- Assumes nothing.
use mathlib.Core.Path.{sym, ap, ◌∙◌}
use borrow.Author.Tests.{eq-eqb, ne_eqb}
use Rattle.group.specs.Distance.{distance}
use Rattle.group.proofs.contents.link_distance.Goals as goal

pub returns-then-bz-eq0 : goal.returns-then-bz-eq0
returns-then-bz-eq0 c =
    c.distance.ensures ∙ ap (distance c.args.by) c.y_of.ensures
    ∙ sym (rw (c.in-Some.is, eq-eqb c.args.bz 0 c.if-bz-eq0.true))

pub returns-else-bz-eq0 : goal.returns-else-bz-eq0
returns-else-bz-eq0 c =
    rw (c.in-Some.is, ne_eqb c.args.bz 0 c.if-bz-eq0.false)

pub returns-in-None : goal.returns-in-None
returns-in-None c = c.distance-in-None.ensures ∙ rw c.in-None.is
