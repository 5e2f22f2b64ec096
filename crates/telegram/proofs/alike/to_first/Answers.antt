-- The places before p are as many as counted, and each has the words of the first.
-- Assumes nothing.
use Prim.Native.Nat.{ℕ, ◌+◌, ◌<◌}
use mathlib.Core.Path.{◌≡◌, sym, ap, ◌∙◌}
use mathlib.Core.Logic.{⊎_elim}
use native.Mathlib.Omega.{arith}
use borrow.Author.Count.{below_none, below_more}
use Rattle.words.specs.Answer.{gives}
use Rattle.telegram.specs.Survey.{alike}
use Rattle.telegram.specs.Telegram.{Received}
use Rattle.telegram.proofs.Window.{bits_lt}
use Rattle.telegram.proofs.Places.{ahead, none_ahead}
use Rattle.telegram.proofs.Many.{past_all, to_mark}
use Rattle.telegram.proofs.SoFar.{so_far_meant, begins, ends, word_in, turn_alike, turn_differs, turn_not_here}
use Rattle.telegram.proofs.alike.to_first.Goals.{After-up_to-p-else-h-eq0}
use Rattle.telegram.proofs.alike.to_first.Goals as goal

-- on to the first mark
to_p : (c : After-up_to-p-else-h-eq0) → let a = c.args in
    let l = c.scan in
    so_far_meant a.buf.now a.first l.count (ahead a.buf.now a.s a.t a.stop l.p) ≡ so_far_meant a.buf.now a.first l.count (ahead a.buf.now a.s a.t a.stop c.up_to-p-else-h-eq0.result)
to_p c =
    let a = c.args in
    let l = c.scan in
    let n = c.before_first in
    ap (so_far_meant a.buf.now a.first l.count) (to_mark a.buf.now a.s a.t a.stop l.p c.up_to-p-else-h-eq0.result c.marks-h.result n.result (omega arith) c.up_to-p-else-h-eq0.ensures c.marks-h.ensures.1 n.ensures.0 n.ensures.1)

pub scan-init : goal.scan-init
scan-init c =
    let a = c.args in
    (omega arith, omega arith, begins a.buf.now a.first (ahead a.buf.now a.s a.t a.stop (a.first + 1)))

pub scan-smaller-then-h-eq0 : goal.scan-smaller-then-h-eq0
scan-smaller-then-h-eq0 c = omega (arith, c.up_to-p.ensures)

pub scan-preserved-then-h-eq0 : goal.scan-preserved-then-h-eq0
scan-preserved-then-h-eq0 c =
    let a = c.args in
    let l = c.scan in
    let r = c.up_to-p.ensures in
    let on = past_all a.buf.now a.s a.t a.stop l.p c.up_to-p.result c.marks-h.result (omega arith) r c.marks-h.ensures.1 c.if-h-eq0.true in
    (omega arith, omega arith, l.invariant.2 ∙ ap (so_far_meant a.buf.now a.first l.count) on)

pub before_first-requires : goal.before_first-requires
before_first-requires c = (omega arith, c.marks-h.ensures.0)

pub is_place-requires : goal.is_place-requires
is_place-requires c =
    omega (arith, c.forty-v.ensures, bits_lt c.args.buf.now c.up_to-p-else-h-eq0.result 40)

pub loop-k-init : goal.loop-k-init
loop-k-init c = below_none _

pub loop-k-preserved : goal.loop-k-preserved
loop-k-preserved c =
    (below_more _ _ c.loop-k.invariant (sym c.word.ensures ∙ c.if-word.false ∙ c.word-in-loop-k.ensures))

pub scan-smaller-then-p-stop : goal.scan-smaller-then-p-stop
scan-smaller-then-p-stop c = omega (arith, c.up_to-p-else-h-eq0.ensures)

pub scan-preserved-then-p-stop : goal.scan-preserved-then-p-stop
scan-preserved-then-p-stop c =
    let a = c.args in
    let l = c.scan in
    let q = c.up_to-p-else-h-eq0 in
    let on = c.if-p-stop.true in
    let b = a.buf.now in
    let v = c.forty-v in
    let kept = c.forty-kept in
    let from = q.ensures in
    ⊎_elim
    (λ z.
    let more : c.if-is_place.count ≡ l.count + 1 = z.count-is in
    let same : (j : ℕ) → j < 3 → word_in v.result j ≡ word_in kept.result j = λ j h. z.loop-k.invariant j (omega (arith, z.loop-k-test.false)) in
    let so_far = turn_alike b a.s a.t a.stop a.first q.result l.count v.result kept.result v.ensures kept.ensures on c.if-is_place.count more (sym c.is_place.ensures ∙ z.if-is_place.true) same in
    (omega arith, omega arith, l.invariant.2 ∙ to_p (goal.at-scan-preserved-then-p-stop c).After-up_to-p-else-h-eq0 ∙ so_far))
    (λ z.
    let as_before : c.if-is_place.count ≡ l.count = z.count-is in
    let so_far = turn_not_here b a.s a.t a.stop a.first q.result l.count v.result kept.result v.ensures kept.ensures on c.if-is_place.count as_before (sym c.is_place.ensures ∙ z.if-is_place.false) in
    (omega arith, omega arith, l.invariant.2 ∙ to_p (goal.at-scan-preserved-then-p-stop c).After-up_to-p-else-h-eq0 ∙ so_far))
    c.if-is_place.branch-raw

pub scan-smaller : goal.scan-smaller
scan-smaller c = omega (arith, c.up_to-p-else-h-eq0.ensures)

pub scan-preserved : goal.scan-preserved
scan-preserved c =
    let q = c.up_to-p-else-h-eq0.ensures in
    (omega arith, omega arith, c.scan.invariant.2 ∙ to_p (goal.at-scan-preserved c).After-up_to-p-else-h-eq0)

pub returns-then-p-stop-2 : goal.returns-then-p-stop-2
returns-then-p-stop-2 c =
    let l = c.scan in
    let a = c.args in
    let b = a.buf.now in
    let kept = c.forty-kept in
    ⊎_elim
    (λ z. absurd (omega (arith, z.scan-test.false, z.p-is)))
    (λ z.
    let m = z.marks-h in
    let n = z.before_first in
    let q = z.up_to-p-else-h-eq0 in
    let v = z.forty-v in
    let other : word_in v.result z.loop-k.k ≡ word_in kept.result z.loop-k.k → ⊥ = λ e. z.if-word.true (z.word.ensures ∙ e ∙ sym z.word-in-loop-k.ensures) in
    let on = to_mark b a.s a.t a.stop l.p q.result m.result n.result (omega arith) q.ensures m.ensures.1 n.ensures.0 n.ensures.1 in
    sym (l.invariant.2 ∙ ap (so_far_meant b a.first l.count) on
    ∙ turn_differs b a.s a.t a.stop a.first q.result l.count v.result kept.result v.ensures kept.ensures z.if-p-stop.true (sym z.is_place.ensures ∙ z.if-is_place.true) z.loop-k.k z.loop-k-test.true other))
    c.scan-test.branch-raw

pub returns : goal.returns
returns c =
    let l = c.scan in
    let a = c.args in
    let b = a.buf.now in
    ⊎_elim
    (λ z.
    ap (λ (m : Received). gives (alike m a.first l.count)) c.requires.1
    ∙ sym (l.invariant.2 ∙ ap (so_far_meant b a.first l.count) (none_ahead b a.s a.t a.stop l.p z.scan-test.false) ∙ ends b a.first l.count))
    (λ z. absurd (omega (arith, z.if-p-stop.true, z.p-is)))
    c.scan-test.branch-raw
