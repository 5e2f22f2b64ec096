-- `is_check` answers true at exactly the positions that document 01 lists as checks.
use borrow.Author.Tests.{ne_eqb}
use Rattle.words.specs.Plain.{is_check}
use Rattle.words.proofs.writing.is_check.Goals as goal

pub returns-in-0 : goal.returns-in-0
unfolding is_check
returns-in-0 c = rw c.in-0.is

pub returns-in-1 : goal.returns-in-1
unfolding is_check
returns-in-1 c = rw c.in-1.is

pub returns-in-2 : goal.returns-in-2
unfolding is_check
returns-in-2 c = rw c.in-2.is

pub returns-in-4 : goal.returns-in-4
unfolding is_check
returns-in-4 c = rw c.in-4.is

pub returns-in-8 : goal.returns-in-8
unfolding is_check
returns-in-8 c = rw c.in-8.is

pub returns-in_default : goal.returns-in_default
unfolding is_check
returns-in_default c =
    simp (
      ne_eqb c.args.i 0 c.in_default.in_default-own.rest.0.0.0.0.1,
      ne_eqb c.args.i 1 c.in_default.in_default-own.rest.0.0.0.1,
      ne_eqb c.args.i 2 c.in_default.in_default-own.rest.0.0.1,
      ne_eqb c.args.i 4 c.in_default.in_default-own.rest.0.1,
      ne_eqb c.args.i 8 c.in_default.in_default-own.rest.1,
    )
