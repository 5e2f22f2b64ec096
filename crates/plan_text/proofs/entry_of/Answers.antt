-- `entry_of` makes a record of the kind, with no words.
use mathlib.Core.Path.{ap}
use Rattle.trace_text.specs.Record.{Recording, record_of_meant}
use Rattle.plan_text.proofs.entry_of.Goals as goal

pub returns : goal.returns
unfolding record_of_meant
returns c = ap (λ (x : Recording). x.bytes) c.record_of-made.ensures
