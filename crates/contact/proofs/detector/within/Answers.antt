-- What the contacts are from the opening bit on, they still are from each later bit on that the
-- walk comes to, until a bit closes.
-- Assumes nothing.
use Prim.Native.Nat.{ℕ, ◌+◌, ◌-◌, ◌<◌}
use mathlib.Core.Path.{refl, sym, ap, ◌∙◌}
use native.Mathlib.Omega.{arith}
use Rattle.contact.specs.Contacts.{since, first}
use Rattle.contact.proofs.Steps.{ends_inside, goes_out, stays_in}
use Rattle.contact.proofs.Stays.{on}
use Rattle.contact.proofs.Block.{Turn, by_marks, passed, all_passed, then_is}
use Rattle.contact.proofs.detector.within.Goals.{After-before_first-n}
use Rattle.contact.proofs.detector.within.Goals as goal

-- a turn: what is not marked does not close
turn : (c : After-before_first-n) → let a = c.args in
    let l = c.loop-i in
    Turn a.buf.now (since a.opened) a.end l.h l.i c.line-w.result c.before_first-n.result
turn c =
    let a = c.args in
    let l = c.loop-i in
    by_marks a.buf.now (since a.opened) a.end (λ (z : ℕ). 4 < z) (λ h i below many. stays_in a.buf.now h i a.end _ _ below refl refl a.opened many)
    l.h l.i c.line-w.result c.closing.result c.before_first-n.result l.invariant.2 c.line-w.ensures c.closing.ensures c.before_first-n.ensures.0 c.before_first-n.ensures.1

pub loop-i-init : goal.loop-i-init
loop-i-init c = (omega arith, omega arith, omega arith, refl)

pub returns-then-end-i : goal.returns-then-end-i
returns-then-end-i c =
    let a = c.args in
    let b = a.buf.now in
    let l = c.loop-i in
    let n = a.end - l.i in
    sym (ap first (l.invariant.3 ∙ passed (turn (goal.at-returns-then-end-i c).After-before_first-n) n (omega arith) (omega arith) ∙ ends_inside b (on b l.h l.i n) (l.i + n) a.end (omega arith) a.opened))

pub zeroes-requires : goal.zeroes-requires
zeroes-requires c = omega (arith, c.latest-h.ensures)

pub overflow_cast-result : goal.overflow_cast-result
overflow_cast-result c = omega (arith, c.latest-h.ensures)

pub returns-then-zeroes-le4 : goal.returns-then-zeroes-le4
returns-then-zeroes-le4 c =
    let a = c.args in
    let b = a.buf.now in
    let l = c.loop-i in
    let k = c.before_first-n.result in
    let none = passed (turn (goal.at-returns-then-zeroes-le4 c).After-before_first-n) k (omega arith) (omega arith) in
    let out = goes_out b (on b l.h l.i k) (l.i + k) a.end c.latest-h.result c.zeroes.result (omega arith) (then_is (turn (goal.at-returns-then-zeroes-le4 c).After-before_first-n) c.latest-h.result c.latest-h.ensures (omega arith)) c.zeroes.ensures a.opened c.if-zeroes-le4.true in
    sym (ap first (l.invariant.3 ∙ none ∙ out))

pub loop-i-preserved-then-n-lt48 : goal.loop-i-preserved-then-n-lt48
loop-i-preserved-then-n-lt48 c =
    let a = c.args in
    let b = a.buf.now in
    let l = c.loop-i in
    let k = c.before_first-n.result in
    let none = passed (turn (goal.at-loop-i-preserved-then-n-lt48 c).After-before_first-n) k (omega arith) (omega arith) in
    let stays = stays_in b (on b l.h l.i k) (l.i + k) a.end c.latest-h.result c.zeroes.result (omega arith) (then_is (turn (goal.at-loop-i-preserved-then-n-lt48 c).After-before_first-n) c.latest-h.result c.latest-h.ensures (omega arith)) c.zeroes.ensures a.opened c.if-zeroes-le4.false in
    (omega arith, omega arith, omega (arith, c.latest-h.ensures), l.invariant.3 ∙ none ∙ stays)

pub loop-i-preserved : goal.loop-i-preserved
loop-i-preserved c =
    let l = c.loop-i in
    let all = c.if-n-lt48.false in
    (omega arith, omega arith, omega (arith, c.latest-h-else-n-lt48.ensures), l.invariant.3 ∙ all_passed (turn (goal.at-loop-i-preserved c).After-before_first-n) c.latest-h-else-n-lt48.result c.latest-h-else-n-lt48.ensures (omega arith) (omega arith))

pub returns : goal.returns
returns c =
    let a = c.args in
    let l = c.loop-i in
    sym (ap first (l.invariant.3 ∙ ends_inside a.buf.now l.h l.i a.end (omega arith) a.opened))
