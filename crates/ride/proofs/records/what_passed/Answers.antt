-- `what_passed` goes by the kind, as the definition does.
use borrow.Author.Tests.{ne_eqb}
use Rattle.ride.specs.Record.{passed_of, kind_of}
use Rattle.ride.proofs.records.what_passed.Goals as goal

pub returns-in-0 : goal.returns-in-0
unfolding passed_of
returns-in-0 c = rw c.in-0.is

pub returns-in-1 : goal.returns-in-1
unfolding passed_of
returns-in-1 c = rw c.in-1.is

pub returns-in-2 : goal.returns-in-2
unfolding passed_of
returns-in-2 c = rw c.in-2.is

pub returns-in_default : goal.returns-in_default
unfolding passed_of
returns-in_default c =
    let kind = kind_of c.args.bytes in
    simp (ne_eqb kind 0 c.in_default.in_default-own.rest.0.0.1, ne_eqb kind 1 c.in_default.in_default-own.rest.0.1, ne_eqb kind 2 c.in_default.in_default-own.rest.1)
