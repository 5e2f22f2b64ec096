-- `other` names the position that document 01 exchanges with i: each arm of the match is one line
-- of the definition.
use borrow.Author.Tests.{ne_eqb}
use Rattle.words.specs.Code.{other}
use Rattle.words.proofs.writing.other.Goals as goal

pub returns-in-3 : goal.returns-in-3
unfolding other
returns-in-3 c = rw c.in-3.is

pub returns-in-4 : goal.returns-in-4
unfolding other
returns-in-4 c = rw c.in-4.is

pub returns-in-11 : goal.returns-in-11
unfolding other
returns-in-11 c = rw c.in-11.is

pub returns-in-12 : goal.returns-in-12
unfolding other
returns-in-12 c = rw c.in-12.is

pub returns-in_default : goal.returns-in_default
unfolding other
returns-in_default c =
    simp (
      ne_eqb c.args.i 3 c.in_default.in_default-own.rest.0.0.0.1,
      ne_eqb c.args.i 4 c.in_default.in_default-own.rest.0.0.1,
      ne_eqb c.args.i 11 c.in_default.in_default-own.rest.0.1,
      ne_eqb c.args.i 12 c.in_default.in_default-own.rest.1,
    )
