-- `with_noise` makes one bit a turn, the highest first: after i turns it has the first i bits, and
-- the generator's number after them.
use Prim.Native.Nat.{ℕ, suc, ◌+◌, ◌<◌}
use mathlib.Core.Path.{◌≡◌, refl, sym, ap, ap₂, ◌∙◌}
use native.Mathlib.Numerals.{add-one}
use native.Mathlib.Omega.{arith}
use borrow.Author.Rules.{rules}
use Rattle.lead_noise.specs.Generator.{drawn}
use Rattle.lead_noise.proofs.Bytes.{top, heard_bit, made_low, whole, one_more}
use Rattle.lead_noise.proofs.byte.with_noise.Goals.{At-loop-i}
use Rattle.lead_noise.proofs.byte.with_noise.Goals as goal

-- What is made so far is a byte.
low : (c : At-loop-i) → c.loop-i.made < 256
low c =
    let a = c.args in
    let l = c.loop-i in
    omega (arith, l.invariant.1, made_low a.x a.chance a.byte l.i (omega arith))

pub loop-i-init : goal.loop-i-init
unfolding drawn top
loop-i-init c = (refl, refl)

pub overflow_mul-made : goal.overflow_mul-made
overflow_mul-made c = omega (arith, low (goal.at-overflow_mul-made c).At-loop-i)

pub heard-requires : goal.heard-requires
heard-requires c = search rules

pub overflow_add-made : goal.overflow_add-made
overflow_add-made c = omega (arith, low (goal.at-overflow_add-made c).At-loop-i)

pub loop-i-preserved : goal.loop-i-preserved
loop-i-preserved c =
    let a = c.args in
    let l = c.loop-i in
    let more = one_more a.x a.chance a.byte l.i l.made l.here c.next-here.result c.heard.result l.invariant.1 l.invariant.0 c.next-here.ensures
    c.heard.ensures.value in
    let e : suc l.i ≡ l.i + 1 = sym (add-one l.i) in
    (more.1 ∙ ap (drawn a.x) e, more.0 ∙ ap (top (heard_bit a.x a.chance a.byte)) e)

pub overflow_cast-result : goal.overflow_cast-result
overflow_cast-result c = omega (arith, low (goal.at-overflow_cast-result c).At-loop-i)

pub returns : goal.returns
returns c =
    let a = c.args in
    let l = c.loop-i in
    let eight : l.i ≡ 8 = omega arith in
    let bits = l.invariant.1 ∙ ap (top (heard_bit a.x a.chance a.byte)) eight ∙ whole a.x a.chance a.byte in
    let at = l.invariant.0 ∙ ap (drawn a.x) eight in
    ap₂ (λ (b x : ℕ). record { byte = b; x = x }) bits at
