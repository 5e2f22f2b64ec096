-- `room` has as many bytes as its type says, and each is 0.
use Rattle.std.proofs.Common.{ℕ, sym, refl}
use Rattle.std.proofs.lemmas.List.{length-replicate}
use Rattle.console.proofs.streams.room.Goals as goal

pub returns : goal.returns
returns c = (sym (length-replicate {A = ℕ} 1048576 0), refl)
