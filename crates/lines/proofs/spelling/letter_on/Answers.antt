-- `letter_on` takes the character for each thing that a word can be.
use borrow.Author.Tests.{eq-eqb, ne_eqb}
use Rattle.lines.specs.Reading.{letter_on}
use Rattle.lines.proofs.spelling.letter_on.Goals as goal

pub returns-in-0 : goal.returns-in-0
unfolding letter_on
returns-in-0 c = rw (c.number_on-number.ensures, c.letters_on-letters.ensures) (simp (eq-eqb _ _ c.in-0.is))

pub returns-in-1 : goal.returns-in-1
unfolding letter_on
returns-in-1 c = rw (c.number_on-number.ensures, c.letters_on-letters.ensures) (simp c.in-1.is)

pub returns-in_default : goal.returns-in_default
unfolding letter_on
returns-in_default c = rw (c.number_on-number.ensures, c.letters_on-letters.ensures) (simp (ne_eqb _ _ c.in_default.in_default-own.rest.0.1, ne_eqb _ _ c.in_default.in_default-own.rest.1))
