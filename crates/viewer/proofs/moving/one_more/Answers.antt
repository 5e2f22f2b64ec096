-- `one_more` counts one more below 256, and stays there.
use borrow.Author.Tests.{lt-ltb, le-ltb}
use Rattle.viewer.proofs.moving.one_more.Goals as goal

pub returns-then-kept-lt256 : goal.returns-then-kept-lt256
returns-then-kept-lt256 c = simp (lt-ltb _ _ c.if-kept-lt256.true)

pub returns : goal.returns
returns c = simp (le-ltb _ _ c.if-kept-lt256.false)
