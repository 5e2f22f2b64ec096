-- `by` goes by the letter.
use borrow.Author.Tests.{eq-eqb, ne_eqb}
use Rattle.viewer_text.specs.Commands.{by}
use Rattle.viewer_text.proofs.commands.by.Goals as goal

pub returns-then-letter-eq102 : goal.returns-then-letter-eq102
unfolding by
returns-then-letter-eq102 c = simp (eq-eqb _ _ c.if-letter-eq102.true)

pub returns-then-letter-eq98 : goal.returns-then-letter-eq98
unfolding by
returns-then-letter-eq98 c = simp (ne_eqb _ _ c.if-letter-eq102.false, eq-eqb _ _ c.if-letter-eq98.true)

pub returns-then-n-eq0 : goal.returns-then-n-eq0
unfolding by
returns-then-n-eq0 c = simp (ne_eqb _ _ c.if-letter-eq102.false, ne_eqb _ _ c.if-letter-eq98.false, eq-eqb _ _ c.if-letter-eq103.true, eq-eqb _ _ c.if-n-eq0.true)

pub returns-then-letter-eq103 : goal.returns-then-letter-eq103
unfolding by
returns-then-letter-eq103 c = simp (ne_eqb _ _ c.if-letter-eq102.false, ne_eqb _ _ c.if-letter-eq98.false, eq-eqb _ _ c.if-letter-eq103.true, ne_eqb _ _ c.if-n-eq0.false)

pub returns-then-letter-eq112 : goal.returns-then-letter-eq112
unfolding by
returns-then-letter-eq112 c = simp (ne_eqb _ _ c.if-letter-eq102.false, ne_eqb _ _ c.if-letter-eq98.false, ne_eqb _ _ c.if-letter-eq103.false, eq-eqb _ _ c.if-letter-eq112.true)

pub returns : goal.returns
unfolding by
returns c = simp (ne_eqb _ _ c.if-letter-eq102.false, ne_eqb _ _ c.if-letter-eq98.false, ne_eqb _ _ c.if-letter-eq103.false, ne_eqb _ _ c.if-letter-eq112.false)
