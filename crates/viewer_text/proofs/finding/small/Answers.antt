-- `small` looks whether the sign is a capital.
use borrow.Author.Tests.{lt-ltb, le-ltb}
use Rattle.viewer_text.specs.Finding.{small}
use Rattle.viewer_text.proofs.finding.small.Goals as goal

pub returns-then-c-lt65 : goal.returns-then-c-lt65
unfolding small
returns-then-c-lt65 c = simp (lt-ltb _ _ c.if-c-lt65.true)

pub returns-then-c-gt90 : goal.returns-then-c-gt90
unfolding small
returns-then-c-gt90 c = simp (le-ltb _ _ c.if-c-lt65.false, lt-ltb _ _ c.if-c-gt90.true)

pub returns : goal.returns
unfolding small
returns c = simp (le-ltb _ _ c.if-c-lt65.false, le-ltb _ _ c.if-c-gt90.false)
