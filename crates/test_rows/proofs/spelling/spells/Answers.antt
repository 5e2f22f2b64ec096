-- `spells` compares the decimal number that a text is.
use mathlib.Core.Path.{sym, ap, ◌∙◌}
use Rattle.test_rows.specs.Spelling.{is, spells}
use Rattle.test_rows.proofs.spelling.spells.Goals as goal

pub returns-in-Ok : goal.returns-in-Ok
unfolding spells
returns-in-Ok c =
    let n = c.args.n in
    ap (is n) (sym c.in-Ok.is) ∙ ap (is n) c.decimal.ensures

pub returns-in-Err : goal.returns-in-Err
unfolding spells
returns-in-Err c =
    let n = c.args.n in
    ap (is n) (sym c.in-Err.is) ∙ ap (is n) c.decimal.ensures
