-- By the bit.
-- Assumes nothing.
use borrow.Author.Tests.{eq-eqb, ne_eqb}
use Rattle.contact_drawing.specs.Strips.{level}
use Rattle.contact_drawing.proofs.wave.put_bit.Goals as goal

pub returns-then-bit-eq0 : goal.returns-then-bit-eq0
unfolding level
returns-then-bit-eq0 c =
    simp (eq-eqb _ _ c.if-bit-eq0.true) c.put.ensures

pub returns : goal.returns
unfolding level
returns c =
    simp (ne_eqb _ _ c.if-bit-eq0.false) c.put-2.ensures
