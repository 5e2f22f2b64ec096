-- `after` goes to the next frame of the decimetre, or to the next decimetre.
use borrow.Author.Tests.{lt-ltb, le-ltb}
use Rattle.track_lead.specs.Feed.{after}
use Rattle.track_lead.proofs.feeding.after.Goals as goal

pub returns-then-feed : goal.returns-then-feed
unfolding after
returns-then-feed c = simp (lt-ltb _ _ c.if-feed.true, ← c.since_after-since.ensures)

pub returns : goal.returns
unfolding after
returns c = simp (le-ltb _ _ c.if-feed.false, ← c.since_after-since.ensures)
