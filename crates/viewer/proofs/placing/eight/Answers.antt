-- `eight` reads the bytes by their numbers.
use native.Mathlib.Omega.{arith}
use Prim.Native.Nat.{◌+◌, ◌*◌, ◌≤◌}
use lib.ListN.{length}
use Rattle.ride.proofs.Turns.{eight_bytes}
use Rattle.viewer.proofs.placing.eight.Goals as goal

pub returns : goal.returns
returns c =
    let room : c.args.i * 8 + 8 ≤ length c.args.trace.now = omega (arith, c.requires) in
    eight_bytes c.args.trace.now (c.args.i * 8) room
