-- A walk over all balises stands at the row that they fit; one that stops before finds none.
-- Assumes nothing.
use mathlib.Core.Path.{◌≡◌, ap, ◌∙◌}
use native.Mathlib.Omega.{arith}
use lib.ListN.{length}
use Rattle.group_rows.specs.Fitting.{says_fitted}
use Rattle.group_rows.proofs.Runs.{most, stopped, arrived}
use Rattle.group_rows.proofs.fit.Goals.{Start}
use Rattle.group_rows.proofs.fit.Goals as goal

long : (s : Start) → length s.args.p ≡ 5
long s = omega (arith, s.well_formed.0.1.0.1)

pub follow-run-requires : goal.follow-run-requires
follow-run-requires c =
    most c.args.p c.args.n c.at_most_five-few.result (long (goal.at-follow-run-requires c).Start) c.at_most_five-few.ensures

pub returns-then-run-few : goal.returns-then-run-few
returns-then-run-few c =
    stopped c.args.p c.args.n c.at_most_five-few.result (long (goal.at-returns-then-run-few c).Start) c.at_most_five-few.ensures
    c.follow-run.result c.follow-run.ensures c.if-run-few.true

pub returns : goal.returns
returns c =
    ap says_fitted c.end_at.ensures
    ∙ arrived c.args.p c.args.n c.at_most_five-few.result (long (goal.at-returns c).Start) c.at_most_five-few.ensures
    c.follow-run.result c.follow-run.ensures c.if-run-few.false
