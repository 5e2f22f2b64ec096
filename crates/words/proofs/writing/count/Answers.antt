-- `count` is right because at every turn `found` is the count over the positions passed.
use mathlib.Core.Path.{◌≡◌, refl, sym, ap, ap₂, ◌∙◌, subst}
use Prim.Native.Nat.{ℕ, ◌+◌, ◌*◌, ◌<◌}
use native.Mathlib.Omega.{arith}
use Rattle.words.specs.Bits.{bit}
use Rattle.words.specs.Plain.{covers, count}
use Rattle.words.proofs.Digits.{bit_lt, bit_mul}
use Rattle.words.proofs.Counting.{covers_lt, count_le, count_more}
use Rattle.words.proofs.writing.count.Goals.{After-covers}
use Rattle.words.proofs.writing.count.Goals as goal

module _ (c : After-covers) where
  looks : ℕ
  looks = c.args.c

  h : ℕ
  h = c.args.h

  i : ℕ
  i = c.loop-i.i

  one : c.covers.result * bit h i < 2
  unfolding looks h i
  one =
      subst (λ (k : ℕ). k * bit h i < 2) (sym c.covers.ensures) (bit_mul (covers looks i) (bit h i) (covers_lt looks i) (bit_lt h i))

  more : c.loop-i.found + c.covers.result * bit h i ≡ count (covers looks) h (i + 1)
  unfolding looks h i
  more =
      ap₂ ◌+◌ c.loop-i.invariant (ap (λ (k : ℕ). k * bit h i) c.covers.ensures) ∙ count_more (covers looks) h i

pub loop-i-init : goal.loop-i-init
unfolding count
loop-i-init c = refl

pub overflow_mul-found : goal.overflow_mul-found
unfolding looks h i
overflow_mul-found c = omega (arith, one c)

pub overflow_add-found : goal.overflow_add-found
unfolding looks h i
overflow_add-found c = omega (arith, more c, count_le (looks c) (h c) (i c + 1))

pub loop-i-preserved : goal.loop-i-preserved
unfolding looks h i
loop-i-preserved c = more c

pub returns : goal.returns
returns c =
    let l = c.loop-i in
    let a = c.args in
    let end : l.i ≡ a.n = omega arith in
    l.invariant ∙ ap (count (covers a.c) a.h) end
