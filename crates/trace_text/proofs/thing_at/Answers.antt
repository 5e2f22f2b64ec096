-- `thing_at` looks whether a whole record stands there.
use native.Mathlib.Omega.{arith}
use Rattle.trace_text.proofs.Standing.{too_short, too_far, stands}
use Rattle.trace_text.proofs.thing_at.Goals as goal

pub returns-then-trace-lt8 : goal.returns-then-trace-lt8
returns-then-trace-lt8 c = too_short _ _ c.if-trace-lt8.true

pub returns-then-at-trace : goal.returns-then-at-trace
returns-then-at-trace c = too_far _ _ c.if-trace-lt8.false c.if-at-trace.true

pub returns : goal.returns
returns c = stands _ _ _ _ (omega arith) (omega arith) c.place_of-place.ensures c.thing_of-what.ensures
