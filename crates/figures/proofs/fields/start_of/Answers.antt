-- `start_of` passes one sign a turn: field k of the text is always the field with that much less
-- from here on.
use mathlib.Core.Path.{◌≡◌, sym, ap, subst, ◌∙◌}
use Prim.Native.Nat.{ℕ, suc, ◌+◌, ◌-◌, ◌≤◌, ◌<◌}
use native.Mathlib.Omega.{arith}
use lib.ListN.{length, drop}
use Rattle.figures.specs.Fields.{place_of, start_of}
use Rattle.figures.proofs.Signs.{next_start, no_start}
use Rattle.figures.proofs.fields.start_of.Goals as goal

pub loop-init : goal.loop-init
loop-init c =
    let a = c.args in
    let e : a.k - 0 ≡ a.k = omega arith in
    let none : 0 + start_of a.text.now a.sign (a.k - 0) ≡ start_of a.text.now a.sign (a.k - 0) = omega arith in
    (omega arith, omega arith, none ∙ ap (start_of a.text.now a.sign) e)

pub returns-then-text-end : goal.returns-then-text-end
returns-then-text-end c =
    let a = c.args in
    let t = a.text.now in
    let at = c.loop.at in
    let m : ℕ = a.k - (c.loop.counter + 1) in
    let one : a.k - c.loop.counter ≡ suc m = omega arith in
    let none : length t ≤ place_of t at a.sign = subst (λ (n : ℕ). length t ≤ n) c.place_of-end.ensures c.if-text-end.true in
    no_start a.sign t at m c.loop.invariant.0 none ∙ ap (λ (n : ℕ). at + start_of (drop at t) a.sign n) (sym one) ∙ c.loop.invariant.2

pub loop-preserved : goal.loop-preserved
loop-preserved c =
    let a = c.args in
    let t = a.text.now in
    let at = c.loop.at in
    let m : ℕ = a.k - (c.loop.counter + 1) in
    let one : a.k - c.loop.counter ≡ suc m = omega arith in
    let some : place_of t at a.sign < length t = subst (λ (n : ℕ). n < length t) c.place_of-end.ensures (omega arith) in
    let here = ap (λ (n : ℕ). n + 1 + start_of (drop (n + 1) t) a.sign m) c.place_of-end.ensures in
    (omega arith, omega arith, here ∙ next_start a.sign t at m c.loop.invariant.0 some ∙ ap (λ (n : ℕ). at + start_of (drop at t) a.sign n) (sym one) ∙ c.loop.invariant.2)

pub returns : goal.returns
unfolding start_of
returns c =
    let a = c.args in
    let all : 0 ≡ a.k - c.loop.counter = omega arith in
    let here : c.loop.at ≡ c.loop.at + 0 = omega arith in
    here ∙ ap (λ (n : ℕ). c.loop.at + start_of (drop c.loop.at a.text.now) a.sign n) all ∙ c.loop.invariant.2
