-- The places from n on have five zeroes or more: some has fewer if one of those before has.
-- Assumes nothing.
use Prim.Native.Nat.{suc, ◌-◌}
use mathlib.Core.Path.{◌≡◌, refl, sym, ap, ◌∙◌}
use native.Mathlib.Omega.{arith}
use borrow.Author.Tests.{lt-ltb, le-ltb}
use Rattle.contact_laws.specs.Zeroes.{zeroes_in, fewest}
use Rattle.audibility.specs.Sound.{some}
use Rattle.audibility.proofs.Some.{here, not_here}
use Rattle.audibility.proofs.sixteen.some_few.Invariants.{few}
use Rattle.audibility.proofs.sixteen.some_few.Goals as goal

pub loop-n-init : goal.loop-n-init
loop-n-init c = refl

pub zeroes_from-requires : goal.zeroes_from-requires
zeroes_from-requires c = (omega arith, omega arith)

pub returns-then-zeroes_from-lt5 : goal.returns-then-zeroes_from-lt5
returns-then-zeroes_from-lt5 c =
    let l = c.loop-n in
    let b = c.args.buf.now in
    let e : l.n ≡ suc (l.n - 1) = omega arith in
    sym (l.invariant ∙ here (few b) l.n (l.n - 1) e (lt-ltb (zeroes_in b (l.n - 1) 16) fewest (omega (arith, c.zeroes_from.ensures, c.if-zeroes_from-lt5.true))))

pub loop-n-preserved : goal.loop-n-preserved
loop-n-preserved c =
    let l = c.loop-n in
    let b = c.args.buf.now in
    let e : l.n ≡ suc (l.n - 1) = omega arith in
    l.invariant ∙ not_here (few b) l.n (l.n - 1) e (le-ltb (zeroes_in b (l.n - 1) 16) fewest (omega (arith, c.zeroes_from.ensures, c.if-zeroes_from-lt5.false)))

pub returns : goal.returns
unfolding some
returns c =
    let none : c.loop-n.n ≡ 0 = omega arith in
    sym (c.loop-n.invariant ∙ ap (some (few c.args.buf.now)) none)
