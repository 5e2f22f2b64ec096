-- `letters_on` goes by the kind of character.
use borrow.Author.Tests.{le-leb, lt-leb, lt-ltb, le-ltb}
use Rattle.lines.specs.Reading.{letters_on}
use Rattle.lines.proofs.spelling.letters_on.Goals as goal

pub returns-then-c-lt97 : goal.returns-then-c-lt97
unfolding letters_on
returns-then-c-lt97 c = simp (lt-leb _ _ c.if-c-lt97.true)

pub returns-then-c-gt122 : goal.returns-then-c-gt122
unfolding letters_on
returns-then-c-gt122 c = simp (le-leb _ _ c.if-c-lt97.false, lt-leb _ _ c.if-c-gt122.true)

pub returns-then-letters-ge1125899906842624 : goal.returns-then-letters-ge1125899906842624
unfolding letters_on
returns-then-letters-ge1125899906842624 c = simp (le-leb _ _ c.if-c-lt97.false, le-leb _ _ c.if-c-gt122.false, le-ltb _ _ c.if-letters-ge1125899906842624.true)

pub returns : goal.returns
unfolding letters_on
returns c = simp (le-leb _ _ c.if-c-lt97.false, le-leb _ _ c.if-c-gt122.false, lt-ltb _ _ c.if-letters-ge1125899906842624.false)
