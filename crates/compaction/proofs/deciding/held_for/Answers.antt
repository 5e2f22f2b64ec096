-- `held_for` holds for the only record of eight bytes.
use mathlib.Core.Path.{ap, ◌∙◌}
use Rattle.settings.specs.At.{held_for}
use Rattle.compaction.proofs.Turns.{odometer_whole}
use Rattle.compaction.proofs.deciding.held_for.Goals as goal

pub returns : goal.returns
returns c =
    c.held_at.ensures ∙ ap (held_for c.args.store c.args.held) (odometer_whole c.args.bytes c.well_formed.1.1.0.1.0.1)
