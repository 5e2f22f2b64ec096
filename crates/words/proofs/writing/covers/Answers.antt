-- `covers` is its definition, case by case.
use borrow.Author.Tests.{eq-eqb, ne_eqb}
use Rattle.words.specs.Plain.{covers}
use Rattle.words.proofs.writing.covers.Goals as goal

pub returns-then-c-eq0 : goal.returns-then-c-eq0
unfolding covers
returns-then-c-eq0 c = simp (eq-eqb c.args.c 0 c.if-c-eq0.true)

pub returns-else-c-eq0 : goal.returns-else-c-eq0
unfolding covers
returns-else-c-eq0 c = simp (ne_eqb c.args.c 0 c.if-c-eq0.false)
