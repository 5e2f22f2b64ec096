-- `columns` asks whether there are columns of a cell that was put right.
use mathlib.Core.Bool.{Bool, true, false}
use mathlib.Core.Path.{◌≡◌, refl, sym, ap, ap₂, ◌∙◌}
use Prim.Native.Nat.{ℕ}
use borrow.Author.Tests.{eq-eqb, ne_eqb}
use lib.Dec.{eqb}
use lib.ListN.{length}
use Rattle.std.proofs.Common.{Option, Some, None, option_map, arith}
use Rattle.words.specs.Answer.{pick}
use Rattle.figures.proofs.Signs.{its_bytes}
use Rattle.test_words.specs.declared.cells.Shown.{Shown}
use Rattle.test_words.specs.Lines.{shown_by, word_by, held_by, put_right, column, columns_of}
use Rattle.test_words.proofs.cells.columns.Goals as goal

-- nothing that was read off says nothing, whatever was put in its place
none_off : (b d : Bool) (figure : ℕ) (w : Option ℕ) → None ≡ pick b (option_map (held_by figure) None) (pick d None (put_right figure None w))
none_off true d figure w = refl
none_off false true figure w = refl
none_off false false figure w = refl

pub returns-in_err-off : goal.returns-in_err-off
unfolding columns_of
returns-in_err-off c =
    let a = c.args in
    let three : Bool = eqb (length (column a.line.now 3)) 0 in
    let four : Bool = eqb (length (column a.line.now 4)) 0 in
    let right : Option ℕ = word_by (column a.line.now 3) in
    let gone : c.from_residual.result ≡ None = grind arith in
    gone
    ∙ none_off three four a.figure right
    ∙ ap (λ (o : Option Shown). pick three (option_map (held_by a.figure) o) (pick four None (put_right a.figure o right))) (c.in_err-off.ensures ∙ ap shown_by (its_bytes c.field.ensures))

pub returns-then-right-eq0 : goal.returns-then-right-eq0
unfolding columns_of
returns-then-right-eq0 c =
    let a = c.args in
    let off = c.in_ok-off.ensures ∙ ap shown_by (its_bytes c.field.ensures) in
    let three : length (column a.line.now 3) ≡ 0 = ap length (sym (its_bytes c.field-right.ensures)) ∙ c.if-right-eq0.true in
    simp (eq-eqb _ _ three) (ap Some c.held.ensures ∙ ap (option_map (held_by a.figure)) off)

pub returns-then-why-eq0 : goal.returns-then-why-eq0
unfolding columns_of
returns-then-why-eq0 c =
    let a = c.args in
    let three : (length (column a.line.now 3) ≡ 0) → ⊥ = λ z. c.if-right-eq0.false (ap length (its_bytes c.field-right.ensures) ∙ z) in
    let four : length (column a.line.now 4) ≡ 0 = ap length (sym (its_bytes c.field-why.ensures)) ∙ c.if-why-eq0.true in
    simp (ne_eqb _ _ three, eq-eqb _ _ four)

pub returns-in_err-word : goal.returns-in_err-word
unfolding columns_of
returns-in_err-word c =
    let a = c.args in
    let off = c.in_ok-off.ensures ∙ ap shown_by (its_bytes c.field.ensures) in
    let right = c.in_err-word.ensures ∙ ap word_by (its_bytes c.field-right.ensures) in
    let three : (length (column a.line.now 3) ≡ 0) → ⊥ = λ z. c.if-right-eq0.false (ap length (its_bytes c.field-right.ensures) ∙ z) in
    let four : (length (column a.line.now 4) ≡ 0) → ⊥ = λ z. c.if-why-eq0.false (ap length (its_bytes c.field-why.ensures) ∙ z) in
    let gone : c.from_residual-in_err-word.result ≡ None = grind arith in
    simp (ne_eqb _ _ three, ne_eqb _ _ four) (gone ∙ ap₂ (put_right a.figure) off right)

pub returns : goal.returns
unfolding columns_of
returns c =
    let a = c.args in
    let off = c.in_ok-off.ensures ∙ ap shown_by (its_bytes c.field.ensures) in
    let right = c.in_ok-word.ensures ∙ ap word_by (its_bytes c.field-right.ensures) in
    let three : (length (column a.line.now 3) ≡ 0) → ⊥ = λ z. c.if-right-eq0.false (ap length (its_bytes c.field-right.ensures) ∙ z) in
    let four : (length (column a.line.now 4) ≡ 0) → ⊥ = λ z. c.if-why-eq0.false (ap length (its_bytes c.field-why.ensures) ∙ z) in
    simp (ne_eqb _ _ three, ne_eqb _ _ four) (ap Some c.righted.ensures ∙ ap₂ (put_right a.figure) off right)
