-- `alone` goes by the letter.
use borrow.Author.Tests.{eq-eqb, ne_eqb}
use Rattle.viewer_text.specs.Commands.{alone}
use Rattle.viewer_text.proofs.commands.alone.Goals as goal

pub returns-then-letter-eq102 : goal.returns-then-letter-eq102
unfolding alone
returns-then-letter-eq102 c = simp (eq-eqb _ _ c.if-letter-eq102.true)

pub returns-then-letter-eq98 : goal.returns-then-letter-eq98
unfolding alone
returns-then-letter-eq98 c = simp (ne_eqb _ _ c.if-letter-eq102.false, eq-eqb _ _ c.if-letter-eq98.true)

pub returns-then-letter-eq113 : goal.returns-then-letter-eq113
unfolding alone
returns-then-letter-eq113 c = simp (ne_eqb _ _ c.if-letter-eq102.false, ne_eqb _ _ c.if-letter-eq98.false, eq-eqb _ _ c.if-letter-eq113.true)

pub returns : goal.returns
unfolding alone
returns c = simp (ne_eqb _ _ c.if-letter-eq102.false, ne_eqb _ _ c.if-letter-eq98.false, ne_eqb _ _ c.if-letter-eq113.false)
