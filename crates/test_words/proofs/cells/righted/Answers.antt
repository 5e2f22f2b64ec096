-- `righted` goes by what was read off.
use mathlib.Core.Path.{sym, ap}
use Rattle.test_words.specs.declared.cells.Shown.{Shown}
use Rattle.test_words.specs.Lines.{righted}
use Rattle.test_words.proofs.cells.righted.Goals as goal

pub returns-in-Word : goal.returns-in-Word
returns-in-Word c =
    let a = c.args in
    ap (λ (o : Shown). righted a.figure o a.word) (sym c.in-Word.is)

pub returns-in-Unreadable : goal.returns-in-Unreadable
returns-in-Unreadable c =
    let a = c.args in
    ap (λ (o : Shown). righted a.figure o a.word) (sym c.in-Unreadable.is)
