-- By whether the number has a long word.
-- Assumes nothing.
use mathlib.Core.Path.{sym, ap, ◌∙◌}
use Rattle.words.specs.Says.{says_written}
use Rattle.std.specs.Prelude.{ℕ, Result}
use Rattle.words.specs.declared.TooLarge.{TooLarge}
use Rattle.test_rows.specs.Balises.{number_word}
use Rattle.test_rows.proofs.balises.number_word.Goals as goal

pub returns-in-Ok : goal.returns-in-Ok
returns-in-Ok c =
    let x = c.args.x in
    c.words_of.ensures
    ∙ ap (λ (r : Result ℕ TooLarge). number_word x (says_written r)) (sym c.in-Ok.is)
    ∙ ap (number_word x) c.write_long.ensures

pub returns-in-Err : goal.returns-in-Err
returns-in-Err c =
    let x = c.args.x in
    ap (λ (r : Result ℕ TooLarge). number_word x (says_written r)) (sym c.in-Err.is) ∙ ap (number_word x) c.write_long.ensures
