-- `exchanged` spells the word whose bit i is the given word's bit at the position exchanged with i.
use mathlib.Core.Path.{◌≡◌, ap, ◌∙◌}
use Prim.Native.Nat.{ℕ, ◌+◌, ◌*◌, ◌/◌, ◌%◌, ◌^◌, ◌≤◌, ◌<◌}
use native.Mathlib.Omega.{arith}
use Rattle.words.specs.Bits.{bit, word}
use Rattle.words.specs.Code.{other, exchanged}
use Rattle.words.proofs.Digits.{bit_lt}
use Rattle.words.proofs.Counting.{other_lt}
use Rattle.words.proofs.Spelling.{Spelt, spelt_none, spelt_more, spelt_lt, worth_le}
use Rattle.words.proofs.writing.exchanged.Invariants.{from}
use Rattle.words.proofs.writing.exchanged.Goals.{After-other-at}
use Rattle.words.proofs.writing.exchanged.Goals as goal

module _ (c : After-other-at) where
  w : ℕ
  w = c.args.w

  i : ℕ
  i = c.loop-i.i

  e : ℕ
  e = c.loop-i.e

  one : ℕ
  one = c.loop-i.one

  b : ℕ
  b = c.args.w / 2 ^ c.other-at.result % 2

  b_is : b ≡ from w i
  unfolding b w i
  b_is = ap (bit w) c.other-at.ensures

  grown : Spelt (from w) (i + 1) (e + b * one) (one * 2)
  unfolding w i e one
  grown = spelt_more (from w) i e one b c.loop-i.invariant b_is

  below : e + b * one < 65536
  unfolding w i e one
  below = spelt_lt (from w) i e one b c.loop-i.invariant b_is (λ j. bit_lt w (other j)) (omega arith)

  worth : one * 2 ≤ 65536
  unfolding w i e one
  worth = worth_le (from w) i e one b c.loop-i.invariant b_is (λ j. bit_lt w (other j)) (omega arith)

pub loop-i-init : goal.loop-i-init
loop-i-init c = spelt_none (from c.args.w)

pub overflow_shr-b : goal.overflow_shr-b
overflow_shr-b c = omega (arith, other_lt c.loop-i.i (omega arith))

pub overflow_mul-e : goal.overflow_mul-e
unfolding w i e one b
overflow_mul-e c = omega (arith, below c)

pub overflow_add-e : goal.overflow_add-e
unfolding w i e one b
overflow_add-e c = omega (arith, below c)

pub overflow_mul-one : goal.overflow_mul-one
unfolding w i e one b
overflow_mul-one c = omega (arith, worth c)

pub loop-i-preserved : goal.loop-i-preserved
unfolding w i e one b
loop-i-preserved c = grown c

pub returns : goal.returns
unfolding exchanged
returns c =
    let l = c.loop-i in
    let end : l.i ≡ c.args.n = omega arith in
    l.invariant.is ∙ ap (word (from c.args.w)) end
