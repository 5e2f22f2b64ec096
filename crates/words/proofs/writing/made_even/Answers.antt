-- `made_even` is its definition; the sum fits, since one check adds at most its own bit.
use mathlib.Core.Path.{ap₂}
use Prim.Native.Nat.{ℕ, ◌+◌, ◌*◌, ◌%◌}
use native.Mathlib.Omega.{arith}
use Rattle.words.specs.Plain.{made_even}
use Rattle.words.proofs.Checking.{worth_le, shifted, added_le}
use Rattle.words.proofs.writing.made_even.Goals as goal

pub overflow_mul-result : goal.overflow_mul-result
overflow_mul-result c =
    let k = c.args.c in
    rw (shifted k c.requires.1) (omega (arith, added_le c.count.result k, worth_le k c.requires.1))

pub overflow_add-result : goal.overflow_add-result
overflow_add-result c =
    let k = c.args.c in
    rw (shifted k c.requires.1) (omega (arith, added_le c.count.result k, worth_le k c.requires.1))

pub returns : goal.returns
unfolding made_even
returns c =
    let k = c.args.c in (
      ap₂ (λ (x y : ℕ). c.args.h + x % 2 * y) c.count.ensures (shifted k c.requires.1),
      rw (shifted k c.requires.1) (omega (arith, added_le c.count.result k, worth_le k c.requires.1)),
    )
