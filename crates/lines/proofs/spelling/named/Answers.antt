-- `named` compares the letters with those of each name.
use mathlib.Core.Path.{sym, ap}
use borrow.Author.Tests.{ne_eqb}
use Rattle.lines.specs.Reading.{named}
use Rattle.lines.proofs.spelling.named.Goals as goal

pub returns-in-437857458 : goal.returns-in-437857458
unfolding named
returns-in-437857458 c = sym (ap named c.in-437857458.is)

pub returns-in-754888858438021 : goal.returns-in-754888858438021
unfolding named
returns-in-754888858438021 c = sym (ap named c.in-754888858438021.is)

pub returns-in-566509577710 : goal.returns-in-566509577710
unfolding named
returns-in-566509577710 c = sym (ap named c.in-566509577710.is)

pub returns-in-18487 : goal.returns-in-18487
unfolding named
returns-in-18487 c = sym (ap named c.in-18487.is)

pub returns-in-647215148 : goal.returns-in-647215148
unfolding named
returns-in-647215148 c = sym (ap named c.in-647215148.is)

pub returns-in-24748959175 : goal.returns-in-24748959175
unfolding named
returns-in-24748959175 c = sym (ap named c.in-24748959175.is)

pub returns-in-49884311716 : goal.returns-in-49884311716
unfolding named
returns-in-49884311716 c = sym (ap named c.in-49884311716.is)

pub returns-in-402885 : goal.returns-in-402885
unfolding named
returns-in-402885 c = sym (ap named c.in-402885.is)

pub returns-in-19388037 : goal.returns-in-19388037
unfolding named
returns-in-19388037 c = sym (ap named c.in-19388037.is)

pub returns-in_default : goal.returns-in_default
unfolding named
returns-in_default c = let n = c.args.letters in simp (
  ne_eqb n 437857458 c.in_default.in_default-own.rest.0.0.0.0.0.0.0.0.1,
  ne_eqb n 754888858438021 c.in_default.in_default-own.rest.0.0.0.0.0.0.0.1,
  ne_eqb n 566509577710 c.in_default.in_default-own.rest.0.0.0.0.0.0.1,
  ne_eqb n 18487 c.in_default.in_default-own.rest.0.0.0.0.0.1,
  ne_eqb n 647215148 c.in_default.in_default-own.rest.0.0.0.0.1,
  ne_eqb n 24748959175 c.in_default.in_default-own.rest.0.0.0.1,
  ne_eqb n 49884311716 c.in_default.in_default-own.rest.0.0.1,
  ne_eqb n 402885 c.in_default.in_default-own.rest.0.1,
  ne_eqb n 19388037 c.in_default.in_default-own.rest.1,
)
