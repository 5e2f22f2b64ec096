-- `judge` looks at the count, at the first version, and has the others looked at.
use mathlib.Core.Path.{ap, ◌∙◌}
use Prim.Native.Nat.{◌≤◌}
use native.Mathlib.Omega.{arith}
use borrow.Author.Tests.{eq-eqb, ne_eqb}
use Rattle.settings.specs.Says.{says_verdict}
use Rattle.settings.proofs.Handed.{handed}
use Rattle.settings.proofs.Counts.{too_many, empty, first_place_law, first_settings}
use Rattle.settings.proofs.judging.judge.Goals as goal

pub returns-then-count-gt32 : goal.returns-then-count-gt32
returns-then-count-gt32 c = too_many c.args.store c.if-count-gt32.true

pub returns-then-count-eq0 : goal.returns-then-count-eq0
returns-then-count-eq0 c = empty c.args.store c.if-count-gt32.false c.if-count-eq0.true

pub returns-then-first-ne0 : goal.returns-then-first-ne0
returns-then-first-ne0 c =
    let some : 1 ≤ c.args.store.count = omega (arith, c.if-count-eq0.false) in
    first_place_law c.args.store c.if-count-gt32.false c.well_formed.0.1.1.0.1.0.1 some
    (ne_eqb _ _ c.if-first-ne0.true)

pub returns-in_err-settings_of : goal.returns-in_err-settings_of
returns-in_err-settings_of c =
    let some : 1 ≤ c.args.store.count = omega (arith, c.if-count-eq0.false) in
    ap says_verdict (handed c.from_residual.result c.from_residual.ensures.1)
    ∙ first_settings c.args.store c.if-count-gt32.false c.well_formed.0.1.1.0.1.0.1 some
    (eq-eqb _ _ c.if-first-ne0.false) _ c.in_err-settings_of.ensures

pub returns : goal.returns
returns c =
    let some : 1 ≤ c.args.store.count = omega (arith, c.if-count-eq0.false) in
    c.all_follow.ensures
    ∙ first_settings c.args.store c.if-count-gt32.false c.well_formed.0.1.1.0.1.0.1 some
    (eq-eqb _ _ c.if-first-ne0.false) _ c.in_ok-settings_of.ensures
