-- `at` judges the store, then the place, and looks up the version in force.
use mathlib.Core.Path.{sym, ap}
use borrow.Author.Tests.{lt-ltb, le-ltb}
use Rattle.settings.specs.At.{asked}
use Rattle.settings.specs.Says.{says_asked}
use Rattle.settings.proofs.Handed.{handed}
use Rattle.settings.proofs.Counts.{at_least, at_most}
use Rattle.settings.proofs.at.Goals as goal

pub returns-in_err-judge : goal.returns-in_err-judge
unfolding asked
returns-in_err-judge c =
    let own = sym c.in_err-judge.ensures in
    rw own (ap says_asked (handed c.from_residual.result c.from_residual.ensures.1))

pub returns-then-place-gt4000000000 : goal.returns-then-place-gt4000000000
unfolding asked
returns-then-place-gt4000000000 c =
    let own = sym c.in_ok-judge.ensures in
    rw (own, lt-ltb _ _ c.if-place-gt4000000000.true)

pub in_force-requires : goal.in_force-requires
in_force-requires c =
    let own = sym c.in_ok-judge.ensures in
    (at_least c.args.store own, at_most c.args.store own)

pub returns : goal.returns
unfolding asked
returns c =
    let own = sym c.in_ok-judge.ensures in
    rw (own, le-ltb _ _ c.if-place-gt4000000000.false, c.in_force.ensures)
