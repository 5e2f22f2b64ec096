-- Nothing before p is a place, and what stands and is read at p decides whether p is one.
-- Assumes nothing.
use Prim.Native.Nat.{◌/◌, ◌%◌, ◌^◌}
use mathlib.Core.Path.{◌≡◌, refl, sym, ap, ap₂, ◌∙◌}
use mathlib.Core.Bool.{Bool, false, ◌&&◌, and-false}
use mathlib.Core.Logic.{⊎_elim}
use native.Mathlib.Omega.{arith}
use Rattle.words.specs.Answer.{gives}
use Rattle.telegram.specs.Telegram.{Received}
use Rattle.telegram.specs.Place.{are_syncs, accepted, at, first_of}
use Rattle.telegram.specs.Says.{says_telegram_read}
use Rattle.telegram.proofs.Window.{bits_lt, inner, inner_is}
use Rattle.telegram.proofs.Places.{fits, ahead, none_ahead, ahead_here, ahead_not_here}
use Rattle.telegram.proofs.Many.{past_all, to_mark}
use Rattle.telegram.proofs.scan.first_place.Goals.{After-up_to-p-else-h-eq0}
use Rattle.telegram.proofs.scan.first_place.Goals as goal

-- on to the first mark
to_p : (c : After-up_to-p-else-h-eq0) → let a = c.args in
    first_of a.buf.now (ahead a.buf.now a.s a.t a.stop a.start) ≡ first_of a.buf.now (ahead a.buf.now a.s a.t a.stop c.up_to-p-else-h-eq0.result)
to_p c =
    let a = c.args in
    let l = c.loop-p in
    let n = c.before_first in
    l.invariant.1
    ∙ ap (first_of a.buf.now) (to_mark a.buf.now a.s a.t a.stop l.p c.up_to-p-else-h-eq0.result c.marks-h.result n.result (omega arith) c.up_to-p-else-h-eq0.ensures c.marks-h.ensures.1 n.ensures.0 n.ensures.1)

pub loop-p-init : goal.loop-p-init
loop-p-init c = (omega arith, refl)

pub loop-p-smaller-then-h-eq0 : goal.loop-p-smaller-then-h-eq0
loop-p-smaller-then-h-eq0 c = omega (arith, c.up_to-p.ensures)

pub loop-p-preserved-then-h-eq0 : goal.loop-p-preserved-then-h-eq0
loop-p-preserved-then-h-eq0 c =
    let a = c.args in
    let l = c.loop-p in
    let r = c.up_to-p.ensures in
    let on = past_all a.buf.now a.s a.t a.stop l.p c.up_to-p.result c.marks-h.result (omega arith) r c.marks-h.ensures.1 c.if-h-eq0.true in
    (omega arith, l.invariant.1 ∙ ap (first_of a.buf.now) on)

pub before_first-requires : goal.before_first-requires
before_first-requires c = (omega arith, c.marks-h.ensures.0)

pub outer_are_syncs-requires : goal.outer_are_syncs-requires
outer_are_syncs-requires c =
    omega (arith, c.forty-v.ensures, bits_lt c.args.buf.now c.up_to-p-else-h-eq0.result 40)

pub returns-in-Ok : goal.returns-in-Ok
returns-in-Ok c =
    let a = c.args in
    let b = a.buf.now in
    let p = c.up_to-p-else-h-eq0.result in
    let v = c.forty-v in
    let reads = sym c.words_of.ensures ∙ ap says_telegram_read c.in-Ok.is in
    let fit = ap (fits a.s a.t) (sym v.ensures)
    ∙ ap₂ (λ (x y : Bool). x && y) (sym c.outer_are_syncs.ensures ∙ c.if-outer_are_syncs.true) (ap accepted reads) in
    ap (λ (m : Received). gives (at p m)) (sym reads ∙ ap inner v.ensures ∙ inner_is b p)
    ∙ sym (to_p (goal.at-returns-in-Ok c).After-up_to-p-else-h-eq0 ∙ ap (first_of b) (ahead_here b a.s a.t a.stop p c.if-p-stop.true fit))

pub loop-p-smaller-then-p-stop : goal.loop-p-smaller-then-p-stop
loop-p-smaller-then-p-stop c = omega (arith, c.up_to-p-else-h-eq0.ensures)

pub loop-p-preserved-then-p-stop : goal.loop-p-preserved-then-p-stop
loop-p-preserved-then-p-stop c =
    let a = c.args in
    let b = a.buf.now in
    let p = c.up_to-p-else-h-eq0.result in
    let v = c.forty-v in
    let outer = are_syncs a.s a.t (v.result / 2 ^ 32) (v.result % 256) in
    let refused : accepted (inner v.result) ≡ false → fits a.s a.t v.result ≡ false =
    λ e. ap (λ (x : Bool). outer && x) e ∙ and-false outer in
    let fit : fits a.s a.t v.result ≡ false =
    ⊎_elim
    (λ z. refused (ap accepted (sym z.words_of.ensures ∙ ap says_telegram_read z.in_default.is)))
    (λ z. ap (λ (x : Bool). x && accepted (inner v.result)) (sym c.outer_are_syncs.ensures ∙ z.if-outer_are_syncs.false))
    c.if-outer_are_syncs.branch-raw in
    (omega arith, to_p (goal.at-loop-p-preserved-then-p-stop c).After-up_to-p-else-h-eq0 ∙ ap (first_of b) (ahead_not_here b a.s a.t a.stop p c.if-p-stop.true (ap (fits a.s a.t) (sym v.ensures) ∙ fit)))

pub loop-p-smaller : goal.loop-p-smaller
loop-p-smaller c = omega (arith, c.up_to-p-else-h-eq0.ensures)

pub loop-p-preserved : goal.loop-p-preserved
loop-p-preserved c = (omega (arith, c.up_to-p-else-h-eq0.ensures), to_p (goal.at-loop-p-preserved c).After-up_to-p-else-h-eq0)

pub returns : goal.returns
returns c =
    let a = c.args in
    let l = c.loop-p in
    sym (l.invariant.1 ∙ ap (first_of a.buf.now) (none_ahead a.buf.now a.s a.t a.stop l.p c.loop-p-test.false))
