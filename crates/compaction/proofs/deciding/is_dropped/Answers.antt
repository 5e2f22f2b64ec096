-- `is_dropped` asks what makes a record dropped of its kind, of its reply and of the next record.
use mathlib.Core.Path.{ap, ap₂, ◌∙◌}
use mathlib.Core.Bool.{Bool, ◌&&◌}
use lib.Dec.{eqb}
use Rattle.ride.specs.Record.{kind_of}
use Rattle.compaction.specs.Dropped.{is_accepted}
use Rattle.compaction.proofs.deciding.is_dropped.Goals as goal

pub returns : goal.returns
returns c =
    ap₂ (λ (x y : Bool). eqb (kind_of c.args.bytes) 3 && (x && y)) c.is_quiet.ensures (c.is_accepted.ensures ∙ ap is_accepted c.check_record.ensures)
