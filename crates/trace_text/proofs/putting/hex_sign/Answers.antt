-- `hex_sign` tells digits from letters.
use borrow.Author.Tests.{le-ltb, lt-ltb}
use Rattle.trace_text.specs.Line.{hex_sign}
use Rattle.trace_text.proofs.putting.hex_sign.Goals as goal

pub returns-then-digit-lt10 : goal.returns-then-digit-lt10
unfolding hex_sign
returns-then-digit-lt10 c = simp (lt-ltb _ _ c.if-digit-lt10.true)

pub returns : goal.returns
unfolding hex_sign
returns c = simp (le-ltb _ _ c.if-digit-lt10.false)
