-- `carried` spells the word that has the figure's bits, lowest first, at the positions that carry,
-- and 0 at each check.
use mathlib.Core.Path.{◌≡◌, refl, sym, ap, ap₂, ◌∙◌, subst}
use mathlib.Core.Bool.{Bool, true, false}
use Prim.Native.Nat.{ℕ, ◌+◌, ◌*◌, ◌/◌, ◌%◌, ◌^◌, ◌≤◌, ◌<◌}
use native.Mathlib.Nat.{zero-mul, one-mul, add-zero, lt_of_lt_of_le}
use native.Mathlib.Numerals.{add-one}
use native.Mathlib.Omega.{arith}
use lib.Pow.{pow_mono}
use Rattle.words.specs.Answer.{pick}
use Rattle.words.specs.Bits.{bit, word}
use Rattle.words.specs.Plain.{is_check, carriers, carried}
use Rattle.words.proofs.Digits.{bit_lt, word_lt}
use Rattle.words.proofs.Counting.{pick_lt}
use Rattle.words.proofs.Figures.{carriers_le}
use Rattle.words.proofs.Spelling.{Spelt, spelt_none, spelt_more, spelt_lt, worth_le}
use Rattle.words.proofs.writing.carried.Invariants.{from}
use Rattle.words.proofs.writing.carried.Goals.{After-carrier-carries}
use Rattle.words.proofs.writing.carried.Goals as goal

from_lt : (x i : ℕ) → from x i < 2
from_lt x i = pick_lt (is_check i) 0 (bit x (carriers i)) 2 (omega arith) (bit_lt x (carriers i))

-- the bit that the code makes of `carrier`'s answer
times : (t : Bool) (y : ℕ) → pick t 0 1 * y ≡ pick t 0 y
times true y = zero-mul y
times false y = one-mul y

-- the count of carriers after one position more
plus : (t : Bool) (k : ℕ) → k + pick t 0 1 ≡ pick t k (k + 1)
plus true k = add-zero k
plus false k = refl

module _ (c : After-carrier-carries) where
  x : ℕ
  x = c.args.x

  i : ℕ
  i = c.loop-i.i

  h : ℕ
  h = c.loop-i.h

  one : ℕ
  one = c.loop-i.one

  k : ℕ
  k = c.loop-i.k

  b : ℕ
  b = c.carrier-carries.result * (c.args.x / 2 ^ c.loop-i.k % 2)

  b_is : b ≡ from x i
  unfolding b x i k
  b_is = ap₂ ◌*◌ c.carrier-carries.ensures (ap (bit x) c.loop-i.invariant.0) ∙ times (is_check i) (bit x (carriers i))

  grown : Spelt (from x) (i + 1) (h + b * one) (one * 2)
  unfolding x i h one
  grown = spelt_more (from x) i h one b c.loop-i.invariant.1 b_is

  below : h + b * one < 65536
  unfolding x i h one
  below = spelt_lt (from x) i h one b c.loop-i.invariant.1 b_is (from_lt x) (omega arith)

  worth : one * 2 ≤ 65536
  unfolding x i h one
  worth = worth_le (from x) i h one b c.loop-i.invariant.1 b_is (from_lt x) (omega arith)

  counted : k + c.carrier-carries.result ≡ carriers (i + 1)
  unfolding k i carriers
  counted =
      ap₂ ◌+◌ c.loop-i.invariant.0 c.carrier-carries.ensures ∙ plus (is_check i) (carriers i) ∙ ap carriers (sym (add-one i))

pub loop-i-init : goal.loop-i-init
unfolding carriers
loop-i-init c = (refl, spelt_none (from c.args.x))

pub overflow_shr-b : goal.overflow_shr-b
overflow_shr-b c = omega (arith, carriers_le c.loop-i.i)

pub overflow_mul-b : goal.overflow_mul-b
unfolding x i b
overflow_mul-b c = omega (arith, b_is c, from_lt (x c) (i c))

pub overflow_mul-h : goal.overflow_mul-h
unfolding x i h one b
overflow_mul-h c = omega (arith, below c)

pub overflow_add-h : goal.overflow_add-h
unfolding x i h one b
overflow_add-h c = omega (arith, below c)

pub overflow_add-k : goal.overflow_add-k
unfolding k i
overflow_add-k c = omega (arith, counted c, carriers_le (i c + 1))

pub overflow_mul-one : goal.overflow_mul-one
unfolding x i h one b
overflow_mul-one c = omega (arith, worth c)

pub loop-i-preserved : goal.loop-i-preserved
unfolding x i h one b k
loop-i-preserved c = (counted c, grown c)

pub returns : goal.returns
unfolding carried
returns c =
    let l = c.loop-i in
    let end : l.i ≡ c.args.n = omega arith in
    let n = c.args.n in
    let x = c.args.x in
    let is : l.h ≡ word (from x) n = l.invariant.1.is ∙ ap (word (from x)) end in
    (is, subst (λ (k : ℕ). k < 65536) (sym is) (lt_of_lt_of_le (word_lt (from x) (from_lt x) n) (pow_mono c.requires)))
