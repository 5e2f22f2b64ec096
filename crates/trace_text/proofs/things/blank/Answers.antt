-- `blank` goes by the kind.
use mathlib.Core.Path.{sym, ap}
use borrow.Author.Tests.{ne_eqb}
use Rattle.trace_text.specs.Thing.{blank}
use Rattle.trace_text.proofs.things.blank.Goals as goal

pub returns-in-1 : goal.returns-in-1
unfolding blank
returns-in-1 c = sym (ap blank c.in-1.is)

pub returns-in-2 : goal.returns-in-2
unfolding blank
returns-in-2 c = sym (ap blank c.in-2.is)

pub returns-in-3 : goal.returns-in-3
unfolding blank
returns-in-3 c = sym (ap blank c.in-3.is)

pub returns-in_default : goal.returns-in_default
unfolding blank
returns-in_default c = simp (ne_eqb _ _ c.in_default.in_default-own.rest.0.0.1, ne_eqb _ _ c.in_default.in_default-own.rest.0.1, ne_eqb _ _ c.in_default.in_default-own.rest.1)
