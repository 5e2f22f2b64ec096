-- What the loop keeps true.
use mathlib.Core.Path.{◌≡◌}
use lib.ListN.{length, take, drop}
use Rattle.group_reason.specs.Explain.{read_from}
use Rattle.group_reason.proofs.Hearing.{after}
use Rattle.group_reason.proofs.reading.read_all.Given as goal

abbrev pub invariant-loop-i : goal.invariant-loop-i
invariant-loop-i l =
    (length l.parts ≡ 5) × (read_from 0 (take l.n l.kept) ≡ after (take l.i l.parts) (read_from l.i (drop l.i (take l.n l.kept))))
