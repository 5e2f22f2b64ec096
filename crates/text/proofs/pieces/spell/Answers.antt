-- `spell` puts the last digit first: the digits that are left, put before those that stand, always
-- make the number.
use mathlib.Core.Path.{◌≡◌, refl, sym, ap, ◌∙◌}
use mathlib.Core.List.{List, [], ◌∷◌, ◌++◌}
use Prim.Native.Nat.{ℕ, ◌+◌, ◌/◌, ◌%◌, ◌^◌, ◌<◌, ◌≤◌}
use native.Mathlib.Omega.{arith}
use lib.ListN.{length, set, length-set, length-append}
use Rattle.text.specs.Text.{decimal, digit}
use Rattle.text.specs.Put.{placed}
use Rattle.text.proofs.Placing.{placed_one, placed_last}
use Rattle.text.proofs.Decimal.{decimal_one, decimal_last, decimal_some}
use Rattle.text.proofs.pieces.spell.Goals as goal

pub overflow_sub-i : goal.overflow_sub-i
overflow_sub-i c = omega (arith, decimal_some c.args.n)

pub loop-rest-init : goal.loop-rest-init
loop-rest-init c =
    let a = c.args in
    let some : 1 ≤ length (decimal a.n) = decimal_some a.n in
    (omega arith, omega arith, omega arith, refl, refl, omega arith)

pub overflow_sub-i-in-loop-rest : goal.overflow_sub-i-in-loop-rest
overflow_sub-i-in-loop-rest c =
    let rest = c.loop-rest.rest in
    let small : rest < 2 ^ 64 = omega arith in
    let one_less : length (decimal rest) ≡ length (decimal (rest / 10)) + 1 =
    ap length (decimal_last rest c.loop-rest-test.true small) ∙ simp length-append in
    omega (arith, decimal_some (rest / 10))

pub loop-rest-preserved : goal.loop-rest-preserved
loop-rest-preserved c =
    let a = c.args in
    let rest = c.loop-rest.rest in
    let buf = c.loop-rest.buf in
    let d = digit (rest % 10) in
    let small : rest < 2 ^ 64 = omega arith in
    let digits_are : decimal rest ≡ decimal (rest / 10) ++ (d ∷ []) = decimal_last rest c.loop-rest-test.true small in
    let one_less : length (decimal rest) ≡ length (decimal (rest / 10)) + 1 = ap length digits_are ∙ simp length-append in
    let here : c.loop-rest.i ≡ a.at + length (decimal (rest / 10)) = omega arith in
    let room : a.at + length (decimal (rest / 10)) < length buf = omega arith in (
      omega arith,
      omega (arith, decimal_some (rest / 10)),
      omega arith,
      length-set buf c.loop-rest.i d ∙ c.loop-rest.invariant.3,
      ap (λ (k : ℕ). placed (decimal (rest / 10)) (set buf k d) a.at) here
          ∙ placed_last (decimal (rest / 10)) buf a.at d room
          ∙ ap (λ (s : List ℕ). placed s buf a.at) (sym digits_are)
          ∙ c.loop-rest.invariant.4,
      c.loop-rest.invariant.5,
    )

pub shape_of-buf : goal.shape_of-buf
shape_of-buf c =
    length-set c.loop-rest.buf c.loop-rest.i (48 + c.loop-rest.rest) ∙ c.loop-rest.invariant.3

pub returns : goal.returns
returns c =
    let a = c.args in
    let rest = c.loop-rest.rest in
    let buf = c.loop-rest.buf in
    let digit-is : decimal rest ≡ digit rest ∷ [] = decimal_one rest c.loop-rest-test.false in
    let one : length (decimal rest) ≡ 1 = ap length digit-is in
    let here : c.loop-rest.i ≡ a.at = omega arith in
    let room : a.at < length buf = omega arith in record {
      value = c.loop-rest.invariant.5;
      buf_after = ap (λ (k : ℕ). set buf k (digit rest)) here
          ∙ placed_one buf a.at (digit rest) room
          ∙ ap (λ (s : List ℕ). placed s buf a.at) (sym digit-is)
          ∙ c.loop-rest.invariant.4;
    }
