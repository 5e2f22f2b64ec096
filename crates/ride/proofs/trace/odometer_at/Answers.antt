-- `odometer_at` reads the four bytes by their numbers.
use mathlib.Core.Path.{ap, ◌∙◌}
use Prim.Native.Nat.{◌*◌, ◌+◌, ◌≤◌}
use native.Mathlib.Omega.{arith}
use lib.ListN.{length}
use Rattle.ride.specs.Record.{odometer_of}
use Rattle.ride.proofs.Turns.{eight_bytes}
use Rattle.ride.proofs.Under.{odometer_there, odometer_none}
use Rattle.ride.proofs.trace.odometer_at.Goals as goal

pub returns-then-trace-i : goal.returns-then-trace-i
returns-then-trace-i c =
    let a = c.args in
    odometer_none a.trace.now a.i c.if-trace-i.true

pub returns : goal.returns
unfolding odometer_of
returns c =
    let a = c.args in
    let room : a.i * 8 + 8 ≤ length a.trace.now = omega (arith, c.if-trace-i.false) in
    c.high_first.ensures ∙ ap odometer_of (eight_bytes a.trace.now (a.i * 8) room) ∙ odometer_there a.trace.now a.i c.if-trace-i.false
