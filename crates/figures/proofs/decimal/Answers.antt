-- `decimal` refuses what is no text of digits, and goes on with one that is.
use mathlib.Core.Path.{◌≡◌, sym, ◌∙◌}
use Prim.Native.Nat.{◌<◌}
use native.Mathlib.Omega.{arith}
use lib.ListN.{length}
use borrow.Author.Tests.{not-true, not-false}
use mathlib.Core.Bool.{true}
use Rattle.figures.specs.Figures.{all_digits_meant}
use Rattle.figures.proofs.Characters.{no_text, no_digits, by_digits}
use Rattle.figures.proofs.decimal.Goals.{Else-not-all_digits}
use Rattle.figures.proofs.decimal.Goals as goal

-- All are digits.
are_digits : (c : Else-not-all_digits) → all_digits_meant c.args.text.now ≡ true
are_digits c = sym c.all_digits.ensures ∙ not-false c.all_digits.result c.if-not-all_digits.false-raw

pub returns-then-text-eq0 : goal.returns-then-text-eq0
returns-then-text-eq0 c =
    let a = c.args in
    no_text a.text.now a.most c.if-text-eq0.true

pub returns-then-not-all_digits : goal.returns-then-not-all_digits
returns-then-not-all_digits c =
    let a = c.args in
    let some : 0 < length a.text.now = omega arith in
    no_digits a.text.now a.most some (sym c.all_digits.ensures ∙ not-true c.all_digits.result c.if-not-all_digits.true-raw)

pub up_to-requires : goal.up_to-requires
up_to-requires c = are_digits c

pub returns : goal.returns
returns c =
    let a = c.args in
    let some : 0 < length a.text.now = omega arith in
    c.up_to.ensures ∙ by_digits a.text.now a.most some (are_digits (goal.at-returns c).Else-not-all_digits)
