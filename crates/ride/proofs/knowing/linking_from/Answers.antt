-- `linking_from` goes by the preset point, as the definition does.
use Rattle.ride.proofs.knowing.linking_from.Goals as goal

pub returns : goal.returns
returns c = rw c.if-preset.false
