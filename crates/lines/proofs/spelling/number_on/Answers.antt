-- `number_on` goes by the kind of character, and by what the number is so far.
use borrow.Author.Tests.{le-leb, lt-leb}
use Rattle.lines.specs.Reading.{number_on}
use Rattle.lines.proofs.spelling.number_on.Goals as goal

pub returns-then-c-lt48 : goal.returns-then-c-lt48
unfolding number_on
returns-then-c-lt48 c = simp (lt-leb _ _ c.if-c-lt48.true)

pub returns-then-c-gt57 : goal.returns-then-c-gt57
unfolding number_on
returns-then-c-gt57 c = simp (le-leb _ _ c.if-c-lt48.false, lt-leb _ _ c.if-c-gt57.true)

pub returns-in-Ok : goal.returns-in-Ok
unfolding number_on
returns-in-Ok c = simp (le-leb _ _ c.if-c-lt48.false, le-leb _ _ c.if-c-gt57.false, c.digit_on.ensures, c.in-Ok.is)

pub returns-in-Err : goal.returns-in-Err
unfolding number_on
returns-in-Err c = simp (le-leb _ _ c.if-c-lt48.false, le-leb _ _ c.if-c-gt57.false, c.in-Err.is)
