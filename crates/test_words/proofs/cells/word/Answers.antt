-- `word` reads two bytes of two digits each.
use mathlib.Core.Path.{◌≡◌, refl, sym, ap₂, ◌∙◌}
use mathlib.Core.List.{List}
use Prim.Native.Nat.{ℕ}
use borrow.Author.Tests.{eq-eqb, ne_eqb}
use lib.ListN.{length, take, drop}
use Rattle.figures.specs.Figures.{hex}
use Rattle.std.proofs.Common.{Option, None, arith}
use Rattle.test_words.specs.Lines.{joined, word_by}
use Rattle.test_words.proofs.cells.word.Goals as goal

-- four digits are two bytes
pairs : (t : List ℕ) → length t ≡ 4 → {y z : Option ℕ} → hex (take 2 t) ≡ y → hex (take 2 (drop 2 t)) ≡ z → joined y z ≡ word_by t
unfolding word_by
pairs t h e f = sym (simp (eq-eqb _ _ h) (ap₂ joined e f))

pub returns-then-text-ne4 : goal.returns-then-text-ne4
unfolding word_by
returns-then-text-ne4 c = simp (ne_eqb _ _ c.if-text-ne4.true)

pub returns-in_err-y : goal.returns-in_err-y
returns-in_err-y c =
    let gone : c.from_residual.result ≡ None = grind arith in
    gone ∙ pairs c.args.text.now c.if-text-ne4.false (sym c.in_err-y.ensures) refl

pub returns-in_err-z : goal.returns-in_err-z
returns-in_err-z c =
    let gone : c.from_residual-in_err-z.result ≡ None = grind arith in
    gone ∙ pairs c.args.text.now c.if-text-ne4.false (sym c.in_ok-y.ensures) (sym c.in_err-z.ensures)

pub returns : goal.returns
returns c =
    pairs c.args.text.now c.if-text-ne4.false (sym c.in_ok-y.ensures) (sym c.in_ok-z.ensures)
