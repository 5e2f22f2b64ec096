-- `next` is one step of the generator, in 64 bits.
use mathlib.Core.Path.{refl}
use Rattle.lead_noise.specs.Generator.{next}
use Rattle.lead_noise.proofs.byte.next.Goals as goal

pub returns : goal.returns
unfolding next
returns c = refl
