-- `treat` treats the only record of eight bytes.
use Rattle.compaction.proofs.Turns.{treated_whole}
use Rattle.compaction.proofs.deciding.treat.Goals as goal

pub returns : goal.returns
returns c =
    treated_whole c.args.ride c.args.gap c.args.bytes c.treat_at.result c.well_formed.1.1.0.1.0.1 c.requires c.treat_at.ensures
