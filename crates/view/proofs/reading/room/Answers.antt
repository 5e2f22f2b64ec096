-- `room` has as many bytes as its type says.
use Rattle.std.proofs.Common.{ℕ, sym}
use lib.ListN.{length-replicate}
use Rattle.view.proofs.reading.room.Goals as goal

pub returns : goal.returns
returns c = sym (length-replicate {A = ℕ} 4194304 0)
