-- `set_out` is the definition's, over a fresh ride.
use Rattle.std.proofs.Common.{true, ap}
use Rattle.ride.specs.declared.Ride.{Ride}
use Rattle.acceptance_console.specs.SetOut.{set_out}
use Rattle.acceptance_console.proofs.blocks.set_out.Goals as goal

pub returns : goal.returns
unfolding set_out
returns c =
    let run = c.args.run in
    ap (λ (r : Ride). record { going = record { ride = r; run = run; troubles = record { faults = 0; refused = 0 } }; whole = true }) c.fresh-ride.ensures
