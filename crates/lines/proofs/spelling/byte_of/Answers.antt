-- `byte_of` reads a word of two characters.
use borrow.Author.Tests.{eq-eqb, ne_eqb}
use Rattle.lines.specs.Reading.{byte_of}
use Rattle.lines.proofs.spelling.byte_of.Goals as goal

pub returns-then-count-ne2 : goal.returns-then-count-ne2
unfolding byte_of
returns-then-count-ne2 c = simp (ne_eqb _ _ c.if-count-ne2.true)

pub returns : goal.returns
unfolding byte_of
returns c = simp (eq-eqb _ _ c.if-count-ne2.false, c.hex.ensures)
