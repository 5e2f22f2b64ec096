-- `held` goes by what was read off.
use mathlib.Core.Path.{sym, ap}
use Rattle.test_words.specs.Lines.{held_by}
use Rattle.test_words.proofs.cells.held.Goals as goal

pub returns-in-Word : goal.returns-in-Word
returns-in-Word c = ap (held_by c.args.figure) (sym c.in-Word.is)

pub returns-in-Unreadable : goal.returns-in-Unreadable
returns-in-Unreadable c = ap (held_by c.args.figure) (sym c.in-Unreadable.is)
