-- The walk stops at the first balise that opens no group with those before it.
-- Assumes nothing.
use mathlib.Core.Path.{◌≡◌}
use native.Mathlib.Omega.{arith}
use lib.ListN.{length}
use Rattle.group_rows.proofs.Runs.{most, opened}
use Rattle.group_rows.proofs.opening.Goals.{Start}
use Rattle.group_rows.proofs.opening.Goals as goal

long : (s : Start) → length s.args.p ≡ 5
long s = omega (arith, s.well_formed.0.1.0.1)

pub follow-run-requires : goal.follow-run-requires
follow-run-requires c =
    most c.args.p c.args.n c.at_most_five-few.result (long (goal.at-follow-run-requires c).Start) c.at_most_five-few.ensures

pub returns : goal.returns
returns c =
    opened c.args.p c.args.n c.at_most_five-few.result (long (goal.at-returns c).Start) c.at_most_five-few.ensures
    c.follow-run.result c.follow-run.ensures
