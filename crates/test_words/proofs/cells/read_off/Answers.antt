-- `read_off` looks for the one sign of an unreadable cell, and else for a word.
use Rattle.std.proofs.Common.{◌≡◌, ap, ◌∙◌, None, option_map, arith}
use Rattle.test_words.specs.declared.cells.Shown.{Shown}
use Rattle.test_words.specs.Lines.{shown_by}
use Rattle.test_words.proofs.cells.read_off.Goals as goal

pub returns-then-text-begins : goal.returns-then-text-begins
unfolding shown_by
returns-then-text-begins c = simp (← c.begins.ensures, c.if-text-begins.true)

pub returns-in_err-word : goal.returns-in_err-word
unfolding shown_by
returns-in_err-word c =
    let gone : c.from_residual.result ≡ None = grind arith in
    simp (← c.begins.ensures, c.if-text-begins.false) (gone ∙ ap (option_map Shown.Word) c.in_err-word.ensures)

pub returns : goal.returns
unfolding shown_by
returns c = simp (← c.begins.ensures, c.if-text-begins.false) (ap (option_map Shown.Word) c.in_ok-word.ensures)
