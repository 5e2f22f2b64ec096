-- `follows` judges the settings, the place, and the place by the last.
use mathlib.Core.Path.{sym, ap}
use borrow.Author.Tests.{le-ltb, lt-ltb, le-leb, lt-leb}
use Rattle.settings.specs.Versions.{follows}
use Rattle.settings.specs.Says.{says_verdict}
use Rattle.settings.proofs.Handed.{handed}
use Rattle.settings.proofs.versions.follows.Goals as goal

pub returns-in_err-settings_of : goal.returns-in_err-settings_of
unfolding follows
returns-in_err-settings_of c =
    let settings = sym c.in_err-settings_of.ensures in
    rw settings (ap says_verdict (handed c.from_residual.result c.from_residual.ensures.1))

pub returns-then-version-gt4000000000 : goal.returns-then-version-gt4000000000
unfolding follows
returns-then-version-gt4000000000 c =
    let settings = sym c.in_ok-settings_of.ensures in
    rw (settings, lt-ltb _ _ c.if-version-gt4000000000.true)

pub returns-then-version-last : goal.returns-then-version-last
unfolding follows
returns-then-version-last c =
    let settings = sym c.in_ok-settings_of.ensures in
    rw (settings, le-ltb _ _ c.if-version-gt4000000000.false, le-leb _ _ c.if-version-last.true)

pub returns : goal.returns
unfolding follows
returns c =
    let settings = sym c.in_ok-settings_of.ensures in
    rw (settings, le-ltb _ _ c.if-version-gt4000000000.false, lt-leb _ _ c.if-version-last.false)
