-- `parity` is right because the machine's count of ones is the count over the word's bits.
use mathlib.Core.Path.{◌≡◌, sym, ap, ◌∙◌}
use mathlib.Core.Bool.{Bool}
use Prim.Native.Nat.{ℕ, ◌%◌, ◌^◌, ◌<◌}
use lib.Dec.{eqb}
use lib.Count.{ones}
use Rattle.words.specs.Answer.{pick}
use Rattle.words.specs.Why.{parity}
use Rattle.words.specs.declared.Parity.{Parity}
use Rattle.words.proofs.Parities.{counted}
use Rattle.words.proofs.reading.parity.Goals as goal

-- what the test found is the parity, in a word of n bits
found : (n w : ℕ) {t s : Bool} → t ≡ eqb (ones w % 2) 0 → t ≡ s → w < 2 ^ n → pick s Parity.Even Parity.Odd ≡ parity n w
found n w is so small = ap (λ (b : Bool). pick b Parity.Even Parity.Odd) (sym so ∙ is) ∙ counted n w small

pub returns-then-is_even : goal.returns-then-is_even
returns-then-is_even c =
    let w = c.args.w in
    let is = c.is_even.ensures in
    (found 16 w is c.if-is_even.true c.requires, found 8 w is c.if-is_even.true)

pub returns-else-is_even : goal.returns-else-is_even
returns-else-is_even c =
    let w = c.args.w in
    let is = c.is_even.ensures in
    (found 16 w is c.if-is_even.false c.requires, found 8 w is c.if-is_even.false)
