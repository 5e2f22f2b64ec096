-- `places` takes four digits off a turn: those counted and those left are always one more than all.
use Prim.Native.Nat.{ℕ, ◌+◌, ◌/◌, ◌^◌, ◌<◌, ◌≤◌}
use mathlib.Core.Path.{◌≡◌, ap, ◌∙◌}
use native.Mathlib.Omega.{arith}
use lib.ListN.{length, length-append}
use Rattle.text.specs.Text.{decimal}
use Rattle.text.proofs.Decimal.{decimal_one, decimal_last}
use Rattle.text.proofs.pieces.places.Goals as goal

-- a number from ten on has one digit more than its tenth
one_more : (n : ℕ) → 10 ≤ n → n < 2 ^ 64 → length (decimal n) ≡ length (decimal (n / 10)) + 1
one_more n h small = ap length (decimal_last n h small) ∙ simp length-append

-- digits taken off in two steps are those of both
both : (n m l l' i j : ℕ) → length (decimal n) ≡ length (decimal m) + i → length (decimal m) ≡ length (decimal l) + j → l ≡ l'
    → length (decimal n) ≡ length (decimal l') + (i + j)
both n m l l' i j p q e =
    let same : length (decimal l) ≡ length (decimal l') = ap (λ (k : ℕ). length (decimal k)) e in
    omega arith

-- from a hundred on, two more than its hundredth
two_more : (n : ℕ) → 100 ≤ n → n < 2 ^ 64 → length (decimal n) ≡ length (decimal (n / 100)) + 2
two_more n h small =
    both n (n / 10) (n / 10 / 10) (n / 100) 1 1 (one_more n (omega arith) small) (one_more (n / 10) (omega arith) (omega arith)) (omega arith)

-- a number below ten has one digit
one : (n : ℕ) → n < 10 → length (decimal n) ≡ 1
one n h = ap length (decimal_one n h)

-- a number from ten to ninety-nine has two
two : (n : ℕ) → 10 ≤ n → n < 100 → length (decimal n) ≡ 2
two n h small =
    let first : length (decimal n) ≡ length (decimal (n / 10)) + 1 = one_more n h (omega arith) in
    let last : length (decimal (n / 10)) ≡ 1 = one (n / 10) (omega arith) in
    omega arith

pub loop-rest-preserved : goal.loop-rest-preserved
loop-rest-preserved c =
    let n = c.loop-rest.rest in
    let four : length (decimal n) ≡ length (decimal (n / 10000)) + 4 =
    both n (n / 100) (n / 100 / 100) (n / 10000) 2 2 (two_more n (omega arith) (omega arith)) (two_more (n / 100) (omega arith) (omega arith)) (omega arith) in
    omega arith

pub returns-then-rest-ge1000 : goal.returns-then-rest-ge1000
returns-then-rest-ge1000 c =
    let rest = c.loop-rest.rest in
    let first : length (decimal rest) ≡ length (decimal (rest / 100)) + 2 = two_more rest (omega arith) (omega arith) in
    let last : length (decimal (rest / 100)) ≡ 2 = two (rest / 100) (omega arith) (omega arith) in
    omega arith

pub returns-then-rest-ge100 : goal.returns-then-rest-ge100
returns-then-rest-ge100 c =
    let rest = c.loop-rest.rest in
    let first : length (decimal rest) ≡ length (decimal (rest / 100)) + 2 = two_more rest c.if-rest-ge100.true (omega arith) in
    let last : length (decimal (rest / 100)) ≡ 1 = one (rest / 100) (omega arith) in
    omega arith

pub returns-then-rest-ge10 : goal.returns-then-rest-ge10
returns-then-rest-ge10 c =
    let rest = c.loop-rest.rest in
    omega (arith, two rest c.if-rest-ge10.true c.if-rest-ge100.false)

pub returns : goal.returns
returns c =
    let rest = c.loop-rest.rest in
    omega (arith, one rest c.if-rest-ge10.false)
