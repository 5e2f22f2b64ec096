-- `visible` asks whether the sign is below the space, then whether it is past the tilde.
use borrow.Author.Tests.{lt-ltb, le-ltb}
use Rattle.viewer_text.specs.Missing.{visible}
use Rattle.viewer_text.proofs.missing.visible.Goals as goal

pub returns-then-c-lt32 : goal.returns-then-c-lt32
unfolding visible
returns-then-c-lt32 c = simp (lt-ltb _ _ c.if-c-lt32.true)

pub returns-then-c-gt126 : goal.returns-then-c-gt126
unfolding visible
returns-then-c-gt126 c = simp (le-ltb _ _ c.if-c-lt32.false, lt-ltb _ _ c.if-c-gt126.true)

pub returns : goal.returns
unfolding visible
returns c = simp (le-ltb _ _ c.if-c-lt32.false, le-ltb _ _ c.if-c-gt126.false)
