-- `eight` reads the bytes by their numbers.
use Rattle.ride.proofs.Turns.{eight_bytes}
use Rattle.compaction.proofs.copying.eight.Goals as goal

pub returns : goal.returns
returns c =
    eight_bytes c.args.trace.now c.args.at c.requires
