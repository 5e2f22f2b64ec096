-- `kept_for` compares the times with what is kept.
use borrow.Author.Tests.{le-leb, lt-leb}
use Rattle.viewer.proofs.going.kept_for.Goals as goal

pub returns-then-times-kept : goal.returns-then-times-kept
returns-then-times-kept c = simp (le-leb _ _ c.if-times-kept.true)

pub returns : goal.returns
returns c = simp (lt-leb _ _ c.if-times-kept.false)
