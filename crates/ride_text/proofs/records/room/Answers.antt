-- `room` is the style's.
use mathlib.Core.Path.{sym, ap}
use Rattle.ride_text.specs.List.{room_for}
use Rattle.ride_text.proofs.records.room.Goals as goal

pub returns-then-reasons : goal.returns-then-reasons
returns-then-reasons c = sym (ap room_for c.if-reasons.true)

pub returns : goal.returns
returns c = sym (ap room_for c.if-reasons.false)
