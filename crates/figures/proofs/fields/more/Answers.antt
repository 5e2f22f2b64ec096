-- `more` adds one where both tests hold, and else nothing.
use mathlib.Core.Bool.{and-false}
use borrow.Author.Tests.{lt-ltb, le-ltb}
use Rattle.figures.specs.Fields.{more}
use Rattle.figures.proofs.fields.more.Goals as goal

pub returns-then-holds : goal.returns-then-holds
unfolding more
returns-then-holds c = simp (lt-ltb _ _ c.if-n-lt4000000000.true, c.if-holds.true)

pub returns-else-holds : goal.returns-else-holds
unfolding more
returns-else-holds c = simp (c.if-holds.false, and-false)

pub returns-else-n-lt4000000000 : goal.returns-else-n-lt4000000000
unfolding more
returns-else-n-lt4000000000 c = simp (le-ltb _ _ c.if-n-lt4000000000.false)
