-- The balises before i are not of category c, so the first of all is the first from i on.
-- Assumes nothing.
use Prim.Native.Nat.{ℕ}
use mathlib.Core.Path.{◌≡◌, refl, sym, ap, ◌∙◌}
use Rattle.std.specs.Prelude.{None}
use native.Mathlib.Omega.{arith}
use Rattle.group_reason.proofs.Looking.{sought_yes, sought_no, sought_none}
use Rattle.group_reason.proofs.figures.first_of.Goals as goal

pub loop-i-init : goal.loop-i-init
loop-i-init c = refl

pub returns-then-is_category : goal.returns-then-is_category
returns-then-is_category c =
    let is = sym c.is_category.ensures ∙ c.if-is_category.true in
    sym (sought_yes c.args.c c.args.p c.args.n c.well_formed.0.1.0.1 c.requires c.loop-i.i c.loop-i-test.true is)
    ∙ c.loop-i.invariant

pub loop-i-preserved : goal.loop-i-preserved
loop-i-preserved c =
    let is = sym c.is_category.ensures ∙ c.if-is_category.false in
    sym (sought_no c.args.c c.args.p c.args.n c.well_formed.0.1.0.1 c.requires c.loop-i.i c.loop-i-test.true is)
    ∙ c.loop-i.invariant

pub returns : goal.returns
returns c =
    let all : c.loop-i.i ≡ c.args.n = omega arith in
    ap (λ (k : ℕ). record { balise = k; found = None }) (sym all)
    ∙ sym (sought_none c.args.c c.args.p c.args.n c.well_formed.0.1.0.1 c.requires c.loop-i.i c.loop-i-test.false)
    ∙ c.loop-i.invariant
