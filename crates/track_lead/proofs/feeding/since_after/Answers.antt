-- `since_after` counts up to 3.
use borrow.Author.Tests.{lt-ltb, le-ltb}
use Rattle.track_lead.proofs.feeding.since_after.Goals as goal

pub returns-then-since-lt3 : goal.returns-then-since-lt3
returns-then-since-lt3 c = simp (lt-ltb _ _ c.if-since-lt3.true)

pub returns : goal.returns
returns c = simp (le-ltb _ _ c.if-since-lt3.false)
